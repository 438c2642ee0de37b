-- `requests`: zeros first, then what is read. Assumes nothing.
use Rattle.kit.proofs.Events.{requests_file}
use Rattle.kit.proofs.requests.Goals as goal

pub returns-in-File : goal.returns-in-File
returns-in-File c =
    rw c.in-File.is
    (requests_file c.args.bytes.now c.args.at c.args.count c.args.list.now c.take_into.new.out c.take_into.result c.requires c.take_into.ensures)
