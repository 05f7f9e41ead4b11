-- What calls answer on every memory of the shape. Assumes nothing.
use Prim.Native.Nat.{ℕ, ◌<◌}
use mathlib.Core.Path.{◌≡◌, refl, sym, ◌∙◌}
use mathlib.Core.Bool.{true, false, not}
use mathlib.Core.List.{List, [], ◌∷◌}
use native.Mathlib.Omega.{arith}
use lib.ListN.{length, get_or}
use borrow.Author.Tests.{eq-eqb}
use Rattle.block.specs.Answers.{refuse, first_of, block_refusal}
use Rattle.block.specs.Check.{check_matches}
use Rattle.block.specs.Form.{well_formed}
use Rattle.block.specs.Theorems.{Accepted, TwoWordsChanged}
use Rattle.block.proofs.BoolLaws.{not_so}
use Rattle.block.proofs.Theorems.{theorems}
use Rattle.memory.specs.Memory.{Memory}
use Rattle.memory.specs.Rows.{free_row}
use Rattle.engine.specs.Answers.{WorkDone}
use Rattle.engine.specs.Answers.Answer.{refused, worked}
use Rattle.engine.specs.Moves.{deliver_lent, deliver_refusal, deliver_step}
use Rattle.engine.specs.Shape.{Shape}
use Rattle.engine.specs.Calls.{step}
use Rattle.engine.specs.Calls.Call.{deliver, work}
use Rattle.engine.specs.Claims.{Claims}
use Rattle.engine.proofs.Tests.{not_first}
use Rattle.engine.proofs.RowLaws.{all_open, none_free}
use Rattle.engine.proofs.Rising.{rises_at, aborted_rise}
use Rattle.engine.proofs.ReadBack.{reads_after}
use Rattle.engine.proofs.TurnStays.{turn-stays}

rising : {over : ℕ} (m : Memory) → Shape over m → (s : WorkDone) → (step m work).answer ≡ worked s
    → (j k : ℕ) → j < k → k < length s.aborted → get_or s.aborted j 0 < get_or s.aborted k 0
rising m S s e = rises_at s.aborted (rw e at (aborted_rise m S))

-- the check of a block that the reader refuses by 14 does not match
unmatched : (c : List ℕ) → length c ≡ 512 → block_refusal c ≡ 14 → check_matches c ≡ false
unfolding block_refusal first_of
unmatched c long e = not_so (check_matches c) (λ h. not_first 14 (refuse 15 (not (well_formed c)) ∷ []) refl (rw (eq-eqb (length c) 512 long, h) at e))

changed : (m : Memory) (b c : List ℕ) (i j : ℕ) → Accepted b → TwoWordsChanged b c i j → deliver_lent m c ≡ true → (step m (deliver c)).answer ≡ refused 14
unfolding step deliver_step deliver_refusal first_of
changed m b c i j a t lent = rw (lent, unmatched c t.long (theorems.two_words b c i j a t))

pub claims : Claims
unfolding free_row
claims = record {
  read_back = λ m S t x v e. (reads_after m S t x v e).0;
  read-other = λ m S t x v e. (reads_after m S t x v e).1;
  rising = rising;
  turn-stays = turn-stays;
  changed = changed;
  full = λ table l e. all_open table 0 (e ∙ sym l) ∙ omega arith;
  six-open = λ table l e. none_free table 0 (e ∙ omega arith) ∙ l;
}
