-- Why a giving is turned away, and each of its answers, from the tests that lead to it. Assumes nothing.
use Prim.Native.Nat.{ℕ, ◌≤◌, ◌-◌, ◌<◌}
use mathlib.Core.Path.{◌≡◌, refl, sym, ap, subst, ◌∙◌}
use Rattle.std.specs.Prelude.{◌≢◌, Option, Some, None, unwrap_or, MatchOption, IsSomeAnd}
use mathlib.Core.Bool.{Bool, true, false, cond, ◌&&◌}
use mathlib.Core.List.{List}
use native.Mathlib.Omega.{arith}
use lib.Dec.{eqb}
use lib.IntN.{ℤ}
use lib.ListN.{length, replicate}
use borrow.Author.Tests.{eq-eqb, ne_eqb, eqb-true, eqb-false, not-false}
use Rattle.block.specs.Answers.{refuse, first_of}
use Rattle.block.proofs.BoolLaws.{both}
use Rattle.memory.specs.declared.Counts.{Counts}
use Rattle.memory.specs.declared.Group.{Group}
use Rattle.memory.specs.declared.Turn.{Turn}
use Rattle.memory.specs.declared.Txn.{Txn}
use Rattle.memory.specs.Memory.{Memory, no_number, window_bytes, outbox_lent, is_window}
use Rattle.memory.specs.Rows.{end_rows}
use Rattle.engine.specs.Moves.{work_lent}
use Rattle.engine.proofs.RowLaws.{open_few}
use Rattle.engine.proofs.Tests.{bool_by, passes}
use Rattle.giving.specs.Choice.{told_turn, giver_of}
use Rattle.giving.specs.Giving.{Going, lacks, set_out_field, give_slots, give_lent, given_to, give_refusal, give_step}
use Rattle.giving.proofs.Choices.{giver_may}
use Rattle.giving.proofs.Kept.{step_goes, step-refused}
use Rattle.call_give.specs.declared.Given.{Given}
use Rattle.call_give.specs.declared.Giving.{Giving}
use Rattle.call_give.specs.Gifts.{give_parts, Stands, Room, TurnTold, names_giver, give_reply, freed_marks}
use Rattle.call_give.proofs.FreedLaws.{gives-freed}

-- ---- the refusals

module _ (m : Memory) (told lent : List ℕ) where
  pub turned-station : m.group.own ≡ no_number → 25 ≡ give_refusal m told lent
  unfolding give_refusal first_of
  turned-station h = rw (eq-eqb m.group.own no_number h)

  module _ (replica : m.group.own ≡ no_number → ⊥) where
    pub turned-length : give_lent m told lent ≡ false → 1 ≡ give_refusal m told lent
    unfolding give_refusal first_of
    turned-length h = rw (ne_eqb m.group.own no_number replica, h)

    module _ (long : give_lent m told lent ≡ true) where
      pub turned-nobody : TurnTold m told None → 30 ≡ give_refusal m told lent
      unfolding give_refusal first_of
      turned-nobody T = rw (ne_eqb m.group.own no_number replica, long, eq-eqb (giver_of m.group.own told) m.group.own T)

      module _ (to : ℕ) (T : TurnTold m told (Some to)) (lacking : Bool) (said : lacking ≡ lacks lent m.turn.slot to) where
        pub turned-lacking : lacking ≡ true → 31 ≡ give_refusal m told lent
        unfolding give_refusal first_of
        turned-lacking h = let e : lacks lent m.turn.slot (given_to m told) ≡ true = sym (rw T.1 at said) ∙ h in rw (ne_eqb m.group.own no_number replica, long, ne_eqb (giver_of m.group.own told) m.group.own T.0, e)

        pub turned-not : lacking ≡ false → 0 ≡ give_refusal m told lent
        unfolding give_refusal first_of
        turned-not h = let e : lacks lent m.turn.slot (given_to m told) ≡ false = sym (rw T.1 at said) ∙ h in rw (ne_eqb m.group.own no_number replica, long, ne_eqb (giver_of m.group.own told) m.group.own T.0, e)

  -- ---- the giver's number

  -- where a number behind 30 or none is answered, turns are told of the giver
  abbrev IsUp : Type 0
  IsUp = (giver_of m.group.own told ≢ m.group.own) × (giver_of m.group.own told < m.group.replicas)

  told_of : (k : ℕ) → eqb 25 k ≡ false → eqb 1 k ≡ false → eqb 30 k ≡ false → give_refusal m told lent ≡ k → IsUp
  unfolding give_refusal
  told_of k s l u e =
      let a = passes (refuse 25 _) _ s e in
      let b = passes (refuse 1 _) _ l a.1 in
      let c = passes (refuse 30 _) _ u b.1 in
      let w = both (work_lent m) _ (not-false (give_lent m told lent) b.0) in
      let t = both (eqb (length told) m.group.replicas) (is_window lent) (both (outbox_lent m) _ w.right).right in
      let up = eqb-false (giver_of m.group.own told) m.group.own c.0 in
      (up, omega (arith, eqb-true (length told) m.group.replicas t.left, (giver_may m.group.own told up).0))

  pub giver-fits : (n : ℕ) → n ≡ give_refusal m told lent → names_giver n ≡ true → IsUp
  giver-fits n e h = bool_by (eqb n 0)
      (λ q. told_of 0 refl refl refl (sym e ∙ eqb-true n 0 q))
      (λ q. told_of 31 refl refl refl (sym e ∙ eqb-true n 31 (rw q at h)))

-- the giver as the choice finds it
pub some_up : (best : Option ℕ) (own g n : ℕ) → unwrap_or best own ≡ g → (g ≢ own) × (g < n) → n ≤ 256 → IsSomeAnd best (λ b. b < 256)
some_up None own g n is up few = absurd (up.0 (sym is))
some_up (Some b) own g n is up few = omega (arith, is, up.1, few)

pub turn_told : (m : Memory) (told : List ℕ) (best to : Option ℕ) → unwrap_or best m.group.own ≡ giver_of m.group.own told → (best ≡ Some m.group.own → ⊥)
    → MatchOption best (to ≡ None) (λ g. IsSomeAnd to (λ t. t ≡ told_turn told g)) → TurnTold m told to
turn_told m told None to is other e = subst (TurnTold m told) (sym e) (sym is)
turn_told m told (Some g) None is other e = absurd e
turn_told m told (Some g) (Some t) is other e = (λ q. other (ap (λ (x : ℕ). Some x) (is ∙ q)), e ∙ ap (told_turn told) is)

-- everything lent has its length, the window too
pub fits_window : (a b c : Bool) (lent : ℕ) (fits : Bool) → fits ≡ (a && (b && (c && eqb lent window_bytes))) → fits ≡ true → lent ≡ window_bytes
fits_window a b c lent fits is h = eqb-true lent window_bytes (both c _ (both b _ (both a _ (sym is ∙ h)).right).right).right

-- ---- where it sets out

module _ (turn : Turn) (counts : Counts) (rows : List Txn) (n : ℕ) (s : Giving)
    (is : s ≡ record { rows = rows; turn = turn; counts = counts; number = n; count = 0; aborted = replicate 6 0 }) where
  pub room-start : length rows ≡ 6 → Room s
  room-start six = rw is (omega (arith, open_few rows))

  pub stands-start : n ≡ 0 → (m : Memory) (group : Group) (q i : List ℕ) (v : List ℤ) (st p o k : List ℕ)
      → Stands (set_out_field (give_parts m group turn counts rows q i v st p o k) 0) s (give_parts m group s.turn s.counts s.rows q i v st p o k)
  stands-start h m group q i v st p o k = rw is (record { memory = refl; number = h; count = refl; aborted = refl })

-- ---- the answers: q, i, v, st, p, o, k are queue, items, values, stamps, places, outbox and window

-- what the answer says of how far the giving came from these rows
abbrev pub answering : List Txn → Giving → ℕ → Given
answering rows s who = record {
  reply = record { number = s.number; giver = who; count = s.count; aborted = s.aborted };
  turn = s.turn;
  counts = s.counts;
  ended = freed_marks rows s.rows;
}

module _ (m : Memory) (group : Group) (turn : Turn) (counts : Counts) (rows : List Txn) (q i : List ℕ) (v : List ℤ) (st p o k : List ℕ) (told lent : List ℕ) where
  abbrev before : Memory
  before = give_parts m group turn counts rows q i v st p o k

  module _ (n : ℕ) (number : n ≡ give_refusal before told lent) (best : ℕ) (is : best ≡ giver_of group.own told) (who : ℕ) (named : who ≡ cond (names_giver n) best 0) (six : length rows ≡ 6) where
    pub away : (n ≡ 0 → ⊥) → (s : Giving) → s ≡ record { rows = rows; turn = turn; counts = counts; number = n; count = 0; aborted = replicate 6 0 } → (r : Given) → r ≡ answering rows s who
        → (r.reply ≡ give_reply before told lent) × (give_parts m group r.turn r.counts (end_rows r.ended rows) q i v st p o k ≡ (give_step before told lent).memory)
    away d s start r e =
        let stays = step-refused before told lent (λ z. d (number ∙ z)) in
        let left : before ≡ (give_step before told lent).memory = sym (ap (λ (g : Going). g.memory) stays) in
        rw (e, start) (rw (stays, ← number, ← is, named), gives-freed before told lent six m group turn counts rows q i v st p o k left)

    pub given : n ≡ 0 → (count : ℕ) → count ≡ given_to before told - turn.slot → (s : Giving) (q' i' : List ℕ) (v' : List ℤ) (st' p' o' k' : List ℕ)
        → Stands (give_slots lent count (set_out_field before 0)) s (give_parts m group s.turn s.counts s.rows q' i' v' st' p' o' k') → (r : Given) → r ≡ answering rows s who
        → (r.reply ≡ give_reply before told lent) × (give_parts m group r.turn r.counts (end_rows r.ended rows) q' i' v' st' p' o' k' ≡ (give_step before told lent).memory)
    given z count all s q' i' v' st' p' o' k' S r e =
        let goes : give_slots lent count (set_out_field before 0) ≡ give_step before told lent = ap (λ (c : ℕ). give_slots lent c (set_out_field before 0)) all ∙ sym (step_goes before told lent (sym number ∙ z)) in
        let left = S.memory ∙ ap (λ (g : Going). g.memory) goes in
        rw e (rw (S.number, S.count, S.aborted, goes, ← number, ← is, named), gives-freed before told lent six m group s.turn s.counts s.rows q' i' v' st' p' o' k' left)
