pub mod ViewsLaws
