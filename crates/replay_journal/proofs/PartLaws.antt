-- The part of a journal that a line names. Assumes nothing.
use Rattle.std.specs.Prelude.{Option, Some, None}
use Prim.Native.Nat.{ℕ, ◌-◌, ◌≤◌, min}
use mathlib.Core.Path.{◌≡◌, refl, sym, ap, ◌∙◌}
use mathlib.Core.Bool.{true, false}
use mathlib.Core.List.{List}
use native.Mathlib.Decide.{dec_le}
use native.Mathlib.Omega.{arith}
use lib.ListN.{length, take, drop, length-take, length-drop, drop_of_length-le}
use lib.Seq.{paste, slice, drop-length}
use Rattle.block.proofs.ListLaws.{lent, lent_slice}
use Rattle.replay_parse.specs.declared.Call.{Call}
use Rattle.replay_journal.specs.Journals.{journal_of, is_part, part_start, part_end, bytes_given, Lends}
use Rattle.replay_journal.proofs.JournalLaws.{take-both, take_there}

module _ (c : Call) (page : List ℕ) where
  module _ (named : List ℕ) where
    pub given-named : (held : Option ℕ) → is_part c.letter ≡ false → named ≡ bytes_given c named (journal_of held page)
    unfolding bytes_given
    given-named (Some n) h = rw h
    given-named None h = refl

    pub given-outgrown : {held : Option ℕ} → held ≡ None → named ≡ bytes_given c named (journal_of held page)
    unfolding bytes_given
    given-outgrown e = rw e

    pub given-part : {held : Option ℕ} {n : ℕ} → held ≡ Some n → is_part c.letter ≡ true → slice (part_start c) (min (part_end c) n) page ≡ bytes_given c named (journal_of held page)
    unfolding bytes_given
    given-part {n = n} e h = rw (e, h) (ap (λ (l : List ℕ). drop (part_start c) l) (sym (take-both (part_end c) n page)))

-- ---- the part put over the first of the bytes lent

drop_there : (n : ℕ) (l : List ℕ) → drop (min n (length l)) l ≡ drop n l
drop_there n l = go (dec_le n (length l))
  where
    go : Dec (n ≤ length l) → drop (min n (length l)) l ≡ drop n l
    go (yes h) =
        let e : min n (length l) ≡ n = omega arith in
        rw e
    go (no h) =
        let e : min n (length l) ≡ length l = omega arith in
        rw (e, drop-length l, drop_of_length-le l {i = n} (omega arith))

module _ (page given : List ℕ) (from to start end : ℕ) (e : end ≡ min to (length page)) (s : start ≡ min from end) where
  part : lent start end page ≡ slice from to page
  part =
      let whole : take end page ≡ take to page = rw e (take_there to page) in
      let l : end ≡ length (take to page) = rw (length-take to page) e in
      lent_slice start end page (omega arith) ∙ rw (whole, s, l) (drop_there from (take to page))

  pub lend-is : {left : List ℕ} {n : ℕ} → left ≡ paste given 0 (lent start end page) (min (length (lent start end page)) (length given))
      → n ≡ min (end - start) (length given) → Lends (slice from to page) given left n
  lend-is {left} {n} is k =
      let p = lent start end page in
      let l : length p ≡ end - start = rw (length-take, length-drop) (omega arith) in
      let m : n ≡ min (length p) (length given) = k ∙ rw l in
      record { count = rw part at m; over = rw part at is }
