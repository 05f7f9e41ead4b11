-- Where no ticket stands twice in own blocks, there are no more own writesets than tickets up to the highest. Assumes nothing.
use Prim.Native.Nat.{ℕ, zero, suc, ◌+◌, ◌-◌, ◌/◌, ◌≤◌, ◌<◌, max}
use mathlib.Core.Path.{◌≡◌, refl, sym, ◌∙◌, subst}
use mathlib.Core.Logic.{◌⊎◌, inl, inr}
use mathlib.Core.Bool.{Bool, true, false, cond}
use mathlib.Core.List.Memᴰ
use mathlib.Core.List.{List, Memᴰ, Nodup, Nodup-cons, [], ◌∷◌, ◌++◌, map}
use native.Mathlib.Nat.{zero-add, le_of_suc-le-suc, not-suc-le-zero}
use native.Mathlib.Omega.{arith}
use lib.IntN.{ℤ}
use lib.ListN.{length, length-append, length-map, get_or}
use Rattle.block.specs.Message.{Record}
use Rattle.block.specs.Answers.{record_at}
use Rattle.memory.specs.Notices.{Notice}
use Rattle.memory.specs.Rows.{open_count}
use Rattle.engine.specs.Client.{report_of}
use Rattle.engine.specs.Restart.{is_good, blocks_in, writesets_from, writesets_in, is_from, highest_ticket, highest_own, own_writesets, restarted_memory}
use Rattle.engine.specs.Tickets.{own_tickets, CountsOf, TicketsOnce}
use Rattle.engine.proofs.Tests.{less_by, pigeons}
use Rattle.engine.proofs.BlockFacts.{taken_block}
use Rattle.engine.proofs.RestartLaws.{good_taken, AllGood, reads_good, length_writesets}
use Rattle.engine.proofs.ShapeRestart.{shape_restarted}
use Rattle.engine.proofs.Shapes.{shape_after}

-- ---- numbers that stand once

member_at : (l : List ℕ) (i : ℕ) → i < length l → Memᴰ (get_or l i 0) l
member_at [] i h = absurd (not-suc-le-zero h)
member_at (x ∷ xs) zero h = Memᴰ.head refl
member_at (x ∷ xs) (suc i) h = Memᴰ.tail (member_at xs i (le_of_suc-le-suc h))

apart : (l : List ℕ) → Nodup l → (i j : ℕ) → i < j → j < length l → get_or l i 0 ≡ get_or l j 0 → ⊥
apart [] d i j h u e = not-suc-le-zero u
apart (x ∷ xs) d i zero h u e = not-suc-le-zero h
apart (x ∷ xs) d zero (suc j) h u e = (Nodup-cons.0 d).0 ∣ subst (λ (y : ℕ). Memᴰ y xs) (sym e) (member_at xs j (le_of_suc-le-suc u)) ∣₁
apart (x ∷ xs) d (suc i) (suc j) h u e = apart xs (Nodup-cons.0 d).1 i j (le_of_suc-le-suc h) (le_of_suc-le-suc u) e

-- of the numbers 1 to n there are n
at_most : (n : ℕ) (l : List ℕ) → Nodup l → ((x : ℕ) → Memᴰ x l → (1 ≤ x) × (x ≤ n)) → length l ≤ n
at_most n l d within =
    less_by n (length l)
    (λ u. absurd (pigeons n (λ k. get_or l k 0 - 1)
    (λ k v. let a = within (get_or l k 0) (member_at l k (omega arith)) in omega (arith, a.0, a.1))
    (λ j k v w e.
    let a = within (get_or l j 0) (member_at l j (omega arith)) in
    let b = within (get_or l k 0) (member_at l k (omega arith)) in
    apart l d j k v (omega arith) (omega (arith, e, a.0, b.0)))))
    (λ u. u)

-- ---- the own tickets

abbrev Within : ℕ → ℕ → Type 0
Within t highest = (1 ≤ t) × (t ≤ highest)

-- of a good block's writesets from the j-th on
tickets-within : (n : ℕ) (b : List ℕ) → is_good n b ≡ true → (j k : ℕ) → j + k ≤ get_or b 3 0 → (t : ℕ) → Memᴰ t (map (λ (w : Record). w.ticket) (writesets_from b j k))
    → Within t (highest_ticket (writesets_from b j k))
unfolding highest_ticket writesets_from
tickets-within n b g j zero h t m = absurd (Memᴰ.not-nil m)
tickets-within n b g j (suc k) h t m =
    go ((taken_block b (good_taken n b g)).ticket j (omega arith)).0 (tickets-within n b g (suc j) k (omega arith) t) (Memᴰ.cases_cons m)
  where
    go : 1 ≤ (record_at b j).ticket → (Memᴰ t (map (λ (w : Record). w.ticket) (writesets_from b (suc j) k)) → Within t (highest_ticket (writesets_from b (suc j) k)))
        → (t ≡ (record_at b j).ticket) ⊎ Memᴰ t (map (λ (w : Record). w.ticket) (writesets_from b (suc j) k))
        → Within t (max (record_at b j).ticket (highest_ticket (writesets_from b (suc j) k)))
    go some rest (inl e) = (omega arith, omega arith)
    go some rest (inr r) = let a = rest r in (a.0, omega (arith, a.1))

own-within : (n own : ℕ) (bs : List (List ℕ)) → AllGood n bs → (t : ℕ) → Memᴰ t (own_tickets own bs) → Within t (highest_own own bs)
unfolding highest_own own_tickets
own-within n own [] g t m = absurd (Memᴰ.not-nil m)
own-within n own (b ∷ bs) g t m =
    go (tickets-within n b (g b (Memᴰ.head refl)) 0 (get_or b 3 0) (omega arith) t) (own-within n own bs (λ c q. g c (Memᴰ.tail q)) t) (is_from own b) m
  where
    go : (Memᴰ t (map (λ (w : Record). w.ticket) (writesets_in b)) → Within t (highest_ticket (writesets_in b))) → (Memᴰ t (own_tickets own bs) → Within t (highest_own own bs))
        → (mine : Bool) → Memᴰ t (cond mine (map (λ (w : Record). w.ticket) (writesets_in b)) [] ++ own_tickets own bs)
        → Within t (max (cond mine (highest_ticket (writesets_in b)) 0) (highest_own own bs))
    go here rest true q = either (Memᴰ.append_cases (map (λ (w : Record). w.ticket) (writesets_in b)) q)
      where
        either : Memᴰ t (map (λ (w : Record). w.ticket) (writesets_in b)) ⊎ Memᴰ t (own_tickets own bs) → Within t (max (highest_ticket (writesets_in b)) (highest_own own bs))
        either (inl r) = let a = here r in (a.0, omega (arith, a.1))
        either (inr r) = let a = rest r in (a.0, omega (arith, a.1))
    go here rest false q = let a = rest q in (a.0, omega (arith, a.1))

own-long : (own : ℕ) (bs : List (List ℕ)) → length (own_tickets own bs) ≡ own_writesets own bs
unfolding own_tickets own_writesets
own-long own [] = refl
own-long own (b ∷ bs) = go (own-long own bs) (is_from own b)
  where
    go : length (own_tickets own bs) ≡ own_writesets own bs → (mine : Bool)
        → length (cond mine (map (λ (w : Record). w.ticket) (writesets_in b)) [] ++ own_tickets own bs) ≡ cond mine (get_or b 3 0) 0 + own_writesets own bs
    go r true =
        let a = length-append (map (λ (w : Record). w.ticket) (writesets_in b)) (own_tickets own bs) in
        let c = length-map (writesets_in b) (λ (w : Record). w.ticket) in
        let l = length_writesets b 0 (get_or b 3 0) in
        omega arith
    go r false = r ∙ sym (zero-add (own_writesets own bs))

-- ---- the theorem

few : (n own : ℕ) (journal : List ℕ) → let bs = blocks_in n journal in Nodup (own_tickets own bs) → own_writesets own bs ≤ highest_own own bs
few n own journal d =
    let bs = blocks_in n journal in
    let a = at_most (highest_own own bs) (own_tickets own bs) d (own-within n own bs (reads_good n 0 (length journal / 512) journal)) in
    let l = own-long own bs in
    omega arith

counts : (n own : ℕ) (values : List ℤ) (journal : List ℕ) (notices : List Notice) → let bs = blocks_in n journal in Nodup (own_tickets own bs) → CountsOf own bs (report_of (restarted_memory n own values notices bs))
unfolding restarted_memory report_of open_count
counts n own values journal notices d =
    let a = few n own journal d in
    record { tickets = refl; committed = refl; others = omega arith; none_open = refl; none-read-only = refl; none-withdrawn = refl }

pub tickets-once : TicketsOnce
tickets-once = record {
  few = few;
  none-repeated = λ n own journal d. let a = few n own journal d in omega arith;
  counts = counts;
  sum = λ n own values g journal notices d cs. unfold report_of in
      let bs = blocks_in n journal in
      let a = few n own journal d in
      let e = (shape_after (restarted_memory n own values notices bs) (shape_restarted n own values g journal notices) cs).ranges.endings in
      omega arith;
}
