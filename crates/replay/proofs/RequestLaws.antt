-- What the program has of a delivery. Assumes nothing.
use Rattle.std.specs.Prelude.{Option, is_some, unwrap_or}
use Rattle.std.proofs.Common.{◌≡◌, ℕ, ◌-◌, Bool, true, false, cond, List, [], length, take, replicate, refl}
use Rattle.std.proofs.Math.Seq.{take-append_seam}
use Rattle.replay_delivery.specs.declared.Delivery.{Delivery}
use Rattle.replay_delivery.specs.Deliveries.{padded, delivery}

-- there is one where the bytes are known
pub some_delivered : (o : Option Delivery) (known : Bool) (bytes : List ℕ) → o ≡ delivery known bytes → is_some o ≡ known
some_delivered o true bytes e = rw e refl
some_delivered o false bytes e = rw e refl

-- its first `count` bytes are those, and where there is none, no bytes
pub first_delivered : (known : Bool) (bytes : List ℕ) (other : Delivery) {d : Delivery} {o : Option Delivery} → o ≡ delivery known bytes → d ≡ unwrap_or o other → other.count ≡ 0
    → take d.count d.bytes ≡ cond known bytes []
unfolding padded
first_delivered true bytes other e f h = rw (f, e) (take-append_seam bytes (replicate (2100 - length bytes) 0))
first_delivered false bytes other e f h = rw (f, e, h) refl
