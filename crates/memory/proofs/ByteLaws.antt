-- Bytes copied over as many others are what is left; a block put in place of 512 bytes. Assumes nothing.
use Prim.Native.Nat.{ℕ, ◌+◌, ◌-◌, min}
use mathlib.Core.Path.{◌≡◌, sym}
use mathlib.Core.List.{List, append-nil, append_assoc}
use native.Mathlib.Nat.{zero-add}
use native.Mathlib.Omega.{arith}
use borrow.Rule.Slice.PartMut.{put_mid}
use lib.ListN.{length, take, drop, drop_of_length-le}
use lib.Seq.{paste, take-length, take_all, drop-drop}

pub copied : (to bytes : List ℕ) → length to ≡ length bytes → paste to 0 bytes (min (length bytes) (length to)) ≡ bytes
copied to bytes h =
    let e : min (length bytes) (length to) ≡ length bytes = omega arith in
    rw (e, take-length bytes, zero-add, drop_of_length-le to {i = length bytes} (omega arith)) (append-nil bytes)

-- 512 bytes lent and put back as the block are the block pasted
pub put-paste : (at : ℕ) (l bytes : List ℕ) → length bytes ≡ 512 → put_mid at (at + 512 - at) l bytes ≡ paste l at bytes 512
put-paste at l bytes h =
    let e : at + 512 - at ≡ 512 = omega arith in
    rw (e, drop-drop 512 at l, take_all 512 bytes (omega arith)) (sym (append_assoc (take at l) bytes (drop (at + 512) l)))
