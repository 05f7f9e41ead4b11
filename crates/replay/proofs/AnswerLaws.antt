-- What is said of a call. Assumes nothing.
use Rattle.std.proofs.Common.{◌≡◌, ℕ, ◌≤◌, Bool, true, false, cond, eqb, List, [], length, take, replicate, ℤ, sym, refl, ap, ◌∙◌, subst, inl, inr, arith}
use Rattle.replay_parse.specs.declared.Call.{Call}
use Rattle.replay_print.specs.Text.{answer_text, unknown_text, Holds}
use Rattle.replay_replica.specs.declared.Replica.{Replica}
use Rattle.replay_replica.specs.Effects.{Effect}
use Rattle.replay.specs.declared.Place.{Place}
use Rattle.replay.specs.declared.Placed.{Placed}
use Rattle.replay.specs.Places.{PlaysAt}
use Rattle.replay.specs.Givings.{GivesAt}
use Rattle.replay.specs.Answers.{shows_block, block_shown, is_sent, kept_after, Says, SaysOf, AnswersAt, GivesLine, is_asked_at, Replies}

module _ (letter number : ℕ) where
  few-if : (b d : Bool) → cond b (cond d 512 0) 0 ≤ 512
  few-if true true = omega arith
  few-if true false = omega arith
  few-if false d = omega arith

  -- no more than a block
  pub shows-few : block_shown letter number ≤ 512
  unfolding block_shown
  shows-few = few-if (shows_block letter) (eqb number 0)

-- the text and the block kept, put together
pub says_all : (letter number : ℕ) (numbers : List ℕ) (values : List ℤ) (block kept out : List ℕ) {shown n : ℕ} {sent : Bool} {kept_left out_left : List ℕ} → shown ≡ block_shown letter number
    → Holds out (answer_text number numbers values (take shown block)) out_left n
    → length out_left ≡ length out
    → (sent ≡ is_sent letter number) × (kept_left ≡ kept_after letter number block kept)
    → Says letter number numbers values block kept out n sent kept_left out_left
says_all letter number numbers values block kept out e h l k =
    record { text = rw e at h; within = omega (arith, h.count, l); sends = k.0; keeps = k.1 }

-- what is said of what the program has of an effect is said of the effect
pub answers_at : (c : Call) (named : List ℕ) (place : Place) (page : List ℕ) {kept out left kept_left out_left block : List ℕ} {p : Placed} {n : ℕ} {sent : Bool}
    → PlaysAt c named (replicate 512 0) place page p left block
    → Says c.letter p.played.number (take p.played.count p.played.numbers) (take p.played.shown p.played.values) block kept out n sent kept_left out_left
    → AnswersAt c named place page kept out (record { replica = p.played.replica; held = p.held; taken = p.taken }) n sent left kept_left out_left
answers_at c named place page {kept = kept} {out = out} {left = left} {kept_left = kept_left} {out_left = out_left} {p = p} {n = n} {sent = sent} h s =
    let q = h.plays.is in
    record {
      memory = ap (λ (e : Effect). e.memory) q;
      rest = h.plays.rest;
      journal = rw (ap (λ (e : Effect). e.block) q) at h.keeps;
      notices = h.notices;
      says = subst (λ (e : Effect). SaysOf c.letter e kept out n sent kept_left out_left) q s;
    }

-- so of a giving, lent a block of zeros that it does not show
pub gives_line : (told lent : List ℕ) (place : Place) (page : List ℕ) {kept out left kept_left out_left : List ℕ} {p : Placed} {n : ℕ} {sent : Bool}
    → GivesAt told lent place page p left
    → Says 71 p.played.number (take p.played.count p.played.numbers) (take p.played.shown p.played.values) (replicate 512 0) kept out n sent kept_left out_left
    → GivesLine told lent place page kept out (record { replica = p.played.replica; held = p.held; taken = p.taken }) n sent left kept_left out_left
gives_line told lent place page {kept = kept} {out = out} {kept_left = kept_left} {out_left = out_left} {n = n} {sent = sent} h s =
    let q = h.plays (replicate 512 0) in
    record {
      memory = ap (λ (e : Effect). e.memory) q.is;
      rest = q.rest;
      journal = h.journal;
      notices = h.notices;
      says = subst (λ (e : Effect). SaysOf 71 e kept out n sent kept_left out_left) q.is s;
    }

-- ---- a line

module _ (known : Bool) (c : Call) (named told : List ℕ) (lender : Replica) (place : Place) (page kept out : List ℕ) {b : Bool} (e : b ≡ is_asked_at known c told lender place page) where
  module _ {after : Place} {left kept_left out_left : List ℕ} {n : ℕ} {sent : Bool} (t : b ≡ true) where
    pub reply-played : told ≡ [] → AnswersAt c named place page kept out after n sent left kept_left out_left
        → Replies known c named told lender place page kept out after n sent left kept_left out_left
    reply-played z h = record { does = inl (sym e ∙ t, inl (z, h)); within = h.says.within }

  pub reply-passed : {out_left : List ℕ} {n : ℕ} → b ≡ false → Holds out unknown_text out_left n → length out_left ≡ length out
      → Replies known c named told lender place page kept out place n false page kept out_left
  reply-passed t h l =
      record { does = inr (sym e ∙ t, record { stays = refl; journal = refl; text = h; sends = refl; keeps = refl }); within = omega (arith, h.count, l) }
