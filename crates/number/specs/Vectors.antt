-- The paper's own spellings (P1 to P3), computed by the definition. Assumes nothing.
use Rattle.std.specs.Prelude.{◌≡◌, refl, [], ◌∷◌, ◌-◌, ◌^◌}
use Rattle.number.specs.Number.{number_at, Number, Bad}

-- 80 00 is not the shortest form
pub p1 : number_at (0x80 ∷ 0x00 ∷ []) 0 ≡ Bad
unfolding number_at
p1 = refl

-- FF FF FF FF 10 is above the largest
pub p2 : number_at (0xff ∷ 0xff ∷ 0xff ∷ 0xff ∷ 0x10 ∷ []) 0 ≡ Bad
unfolding number_at
p2 = refl

-- FF FF FF 7F
pub p3 : number_at (0xff ∷ 0xff ∷ 0xff ∷ 0x7f ∷ []) 0 ≡ Number (2 ^ 28 - 1) 4
unfolding number_at
p3 = refl

-- FF FF FF FF 0F
pub largest : number_at (0xff ∷ 0xff ∷ 0xff ∷ 0xff ∷ 0x0f ∷ []) 0 ≡ Number (2 ^ 32 - 1) 5
unfolding number_at
largest = refl
