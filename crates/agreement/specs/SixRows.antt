-- Every table of a group's run, a station's too, has six rows, with any bytes, any journals and no premise.
use Rattle.std.specs.Prelude.{ℕ, ◌≡◌, List, ℤ, length}
use Rattle.agreement.specs.Group.{CallAt, fresh, run, Calls}
use Rattle.engine.specs.Make.{Setting}

pub record SixRows : Type 0 where
  pub tables : (n : ℕ) (start : List ℤ) → Setting n start → (cs : List CallAt) → Calls n cs → (k : ℕ)
      → length ((run (fresh n start) cs).memories k).txns.table ≡ 6
