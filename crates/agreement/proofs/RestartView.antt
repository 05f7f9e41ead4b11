-- The blocks that a restart reads, as the model sees them: its messages in slot order, and what committing them leaves. Assumes nothing.
use Prim.Native.Nat.{ℕ, zero, suc, ◌+◌, ◌*◌, ◌≤◌, ◌<◌}
use mathlib.Core.Path.{◌≡◌, refl, sym, ap, ◌∙◌}
use mathlib.Core.Bool.{Bool, true, false, cond, not, ◌&&◌}
use mathlib.Core.Option.{Option, none, some}
use mathlib.Core.List.Memᴰ
use mathlib.Core.List.{List, [], ◌∷◌, map}
use native.Mathlib.Nat.{zero-add, add-zero, add-suc, suc-add}
use native.Mathlib.Omega.{arith}
use lib.Dec.{eqb, ltb, leb}
use lib.IntN.{ℤ}
use lib.ListN.{length, get_or, take, drop, length-take, length-drop}
use borrow.Author.Tests.{ltb-true, lt-ltb, ne_eqb, eqb-true}
use Rattle.block.specs.Message.{Record, record_fits, records_fit}
use Rattle.block.specs.Form.{message_of}
use Rattle.block.specs.Answers.{block_refusal, header_of}
use Rattle.block.specs.Theorems.{no_record}
use Rattle.block.proofs.BoolLaws.{both, not_so}
use Rattle.block.proofs.MessageLaws.{message_facts, record_facts}
use Rattle.block.proofs.AnswerLaws.{is_taken, is_formed}
use Rattle.memory.specs.Notices.{Notice, puts_out}
use Rattle.engine.specs.Moves.{writeset_at}
use Rattle.engine.specs.History.{writeset_count}
use Rattle.engine.specs.Restart.{is_good, blocks_from, writesets_from, writesets_in, Replayed, commit_one, commit_all, commit_blocks, is_from, highest_ticket, highest_own, last_own}
use Rattle.engine.proofs.Tests.{bool_by, clash, less_by, bump_is}
use Rattle.engine.proofs.ShapeWriteset.{length-stamped}
use Rattle.engine.proofs.RestartLaws.{AllGood, good_taken}
use Rattle.protocol.specs.Lists.{opt, keep}
use Rattle.protocol.specs.Notices.{notices_about, out_by}
use Rattle.protocol.specs.Writesets.{Message}
use Rattle.protocol.specs.Replica.{Store}
use Rattle.protocol.specs.Journal as model
use Rattle.protocol.specs.Blocks.{read_blocks}
use Rattle.protocol.specs.Journal.{in_slot_order, highest_of, of_out_slot, last_of}
use Rattle.protocol.specs.Moves.{store_after}
use Rattle.agreement.specs.Group.{write_of, writeset_from, message_in, notice_in, given_in}
use Rattle.agreement.proofs.DeliverStep.{kind_some, slot_said}
use Rattle.agreement.proofs.BlockView.{counted, writeset-read, sender_seen, values-after, stamps_after}

-- ---- the blocks read

-- b is torn (t), good (g), of the next slot (e)
read_one : (t g e : Bool) (b : List ℕ) (bs rs : List (List ℕ)) (s : ℕ) → (t ≡ true → g ≡ false) → eqb (message_in b).slot s ≡ e → map message_in bs ≡ in_slot_order (suc s) (map message_in rs)
    → map message_in (cond (g && e) (b ∷ bs) []) ≡ in_slot_order s (map message_in (cond t [] (cond g (b ∷ rs) [])))
unfolding in_slot_order
read_one true true e b bs rs s h q r = clash {b = true} refl (h refl)
read_one true false e b bs rs s h q r = refl
read_one false false e b bs rs s h q r = refl
read_one false true true b bs rs s h q r = rw q (ap (λ (l : List (Message ℤ)). message_in b ∷ l) r)
read_one false true false b bs rs s h q r = rw q refl

torn_bad : (n : ℕ) (bytes : List ℕ) → ltb (length bytes) 512 ≡ true → is_good n (take 512 bytes) ≡ false
torn_bad n bytes h = not_so (is_good n (take 512 bytes)) (λ g.
    let l = (is_taken (take 512 bytes) (good_taken n (take 512 bytes) g)).long in
    let a = length-take 512 bytes in
    let u = ltb-true (length bytes) 512 h in
    omega arith)

-- the messages read are those of the blocks that are good, up to one that is not of the next slot
pub reads_in_order : (n s most : ℕ) (bytes : List ℕ) → map message_in (blocks_from n s most bytes) ≡ in_slot_order s (map message_in (read_blocks 512 (is_good n) most bytes))
unfolding blocks_from read_blocks in_slot_order
reads_in_order n s zero bytes = refl
reads_in_order n s (suc most) bytes =
    read_one (ltb (length bytes) 512) (is_good n (take 512 bytes)) (eqb (header_of (take 512 bytes)).slot s) (take 512 bytes)
    (blocks_from n (suc s) most (drop 512 bytes)) (read_blocks 512 (is_good n) most (drop 512 bytes)) s
    (torn_bad n bytes) (ap (λ (k : ℕ). eqb k s) (slot_said (take 512 bytes))) (reads_in_order n (suc s) most (drop 512 bytes))

-- as many as the bytes have are enough
pub read_enough : (good : List ℕ → Bool) (f g : ℕ) (bytes : List ℕ) → length bytes < 512 * suc f → length bytes < 512 * suc g
    → read_blocks 512 good f bytes ≡ read_blocks 512 good g bytes
unfolding read_blocks
read_enough good zero zero bytes h u = refl
read_enough good zero (suc g) bytes h u = rw (lt-ltb (length bytes) 512 (omega arith)) refl
read_enough good (suc f) zero bytes h u = rw (lt-ltb (length bytes) 512 (omega arith)) refl
read_enough good (suc f) (suc g) bytes h u =
    less_by (length bytes) 512
    (λ s. rw (lt-ltb (length bytes) 512 s) refl)
    (λ s. let d = length-drop 512 bytes in
    ap (λ (l : List (List ℕ)). cond (ltb (length bytes) 512) [] (cond (good (take 512 bytes)) (take 512 bytes ∷ l) []))
    (read_enough good f g (drop 512 bytes) (omega arith) (omega arith)))

-- ---- their writesets

writesets_are : (b : List ℕ) (j : ℕ) (rs : List Record) → ((i : ℕ) → i < length rs → writeset_at b (j + i) ≡ get_or rs i no_record) → writesets_from b j (length rs) ≡ rs
unfolding writesets_from
writesets_are b j [] h = refl
writesets_are b j (r ∷ rs) h =
    rw (rw (add-zero j) at (h 0 (omega arith)), writesets_are b (suc j) rs (λ i u. rw (suc-add j i, ← add-suc j i) (h (suc i) (omega arith))))

pub writesets_read : (b : List ℕ) → block_refusal b ≡ 0 → writesets_in b ≡ (message_of b).records
writesets_read b e =
    ap (writesets_from b 0) (sym (counted b))
    ∙ writesets_are b 0 (message_of b).records (λ i u. rw (zero-add i) (writeset-read b e i (rw (counted b) at u)))

records_fit_lem : (b : List ℕ) → block_refusal b ≡ 0 → records_fit (message_of b).records ≡ true
records_fit_lem b e = (message_facts (message_of b) (is_formed b (is_taken b e).forms).fields).records

-- ---- own blocks

highest_same : (ws : List Record) → highest_ticket ws ≡ model.highest_ticket (map writeset_from ws)
unfolding highest_ticket model.highest_ticket
highest_same [] = refl
highest_same (w ∷ ws) = rw (highest_same ws)

pub highest_own_lem : (n k : ℕ) (bs : List (List ℕ)) → AllGood n bs → highest_own k bs ≡ highest_of k (map message_in bs)
unfolding highest_own highest_of message_in
highest_own_lem n k [] g = refl
highest_own_lem n k (b ∷ bs) g =
    let e = good_taken n b (g b (Memᴰ.head refl)) in
    let a = highest_own_lem n k bs (λ c q. g c (Memᴰ.tail q)) in
    rw (a, writesets_read b e, highest_same (message_of b).records, ← sender_seen b) refl

given-some : (b : List ℕ) → block_refusal b ≡ 0 → given_in b ≡ some (message_in b)
given-some b e = rw (ne_eqb (get_or b 0 0) 0 (kind_some b e)) refl

given-one : (o : Option (Message ℤ)) (mine : Bool) (b d : List ℕ) → given_in b ≡ some (message_in b)
    → opt o (given_in (cond mine b d)) some ≡ opt (opt o (cond mine (some (message_in b)) none) some) (given_in d) some
given-one none true b d e = e
given-one none false b d e = refl
given-one (some m) mine b d e = refl

-- the slots that the notices put out
pub puts_same : (b : Bool) (l : List Notice) (k s : ℕ) → out_by b (notices_about k (map notice_in l)) s ≡ puts_out b l k s
unfolding out_by keep puts_out
puts_same b [] k s = refl
puts_same b (a ∷ l) k s = bool_by (eqb a.about k) (λ e. rw e (puts_same (cond (leb a.slot s) a.out b) l k s)) (λ e. rw e (puts_same b l k s))

-- an own block outside out slots
abbrev gives_back : List Notice → ℕ → List ℕ → Bool
gives_back l k b = is_from k b && not (puts_out false l k (header_of b).slot)

mine_same : (l : List Notice) (k : ℕ) (b : List ℕ) → eqb (message_in b).sender k && not (of_out_slot (map notice_in l) (message_in b)) ≡ gives_back l k b
mine_same l k b =
    bool_by (eqb (get_or b 1 0) k)
    (λ e. rw (sender_seen b, e)
    (ap not
    (ap (λ (j : ℕ). out_by false (notices_about j (map notice_in l)) (message_in b).slot) (eqb-true (get_or b 1 0) k e)
    ∙ puts_same false l k (message_in b).slot
    ∙ ap (puts_out false l k) (slot_said b))))
    (λ e. rw (sender_seen b, e) refl)

pub given-last : (l : List Notice) (n k : ℕ) (d : List ℕ) (bs : List (List ℕ)) → AllGood n bs
    → given_in (last_own k l d bs) ≡ opt (last_of k (map notice_in l) (map message_in bs)) (given_in d) some
unfolding last_own last_of
given-last l n k d [] g = refl
given-last l n k d (b ∷ bs) g =
    given-last l n k (cond (gives_back l k b) b d) bs (λ c q. g c (Memᴰ.tail q))
    ∙ given-one (last_of k (map notice_in l) (map message_in bs)) (gives_back l k b) b d (given-some b (good_taken n b (g b (Memᴰ.head refl))))
    ∙ ap (λ (z : Bool). opt (opt (last_of k (map notice_in l) (map message_in bs)) (cond z (some (message_in b)) none) some) (given_in d) some) (sym (mine_same l k b))

-- ---- commits, values and stamps

pub record Same (r : Replayed) (s : Store ℤ) : Type 0 where
  pub commits : r.commits ≡ s.commits
  pub values : r.store.values ≡ s.values
  pub stamps : (i : ℕ) → get_or r.store.stamps i 0 ≡ s.stamps i
  pub long : length r.store.stamps ≡ 128

one_same : (w : Record) → record_fits w ≡ true → (r : Replayed) (s : Store ℤ) → Same r s → r.commits < 4_294_967_295 → Same (commit_one r w) (store_after (map write_of w.entries) s)
one_same w fit r s h u =
    let e = bump_is r.commits u ∙ ap suc h.commits in
    record {
      commits = e;
      values = rw h.values (values-after w.entries s.values);
      stamps = λ i. rw e (stamps_after (suc s.commits) 0 w.entries r.store.stamps s.stamps (record_facts w fit).fit h.long h.stamps i);
      long = length-stamped _ w.entries r.store.stamps ∙ h.long;
    }

-- the commit counts leave room for all of them
all_same : (ws : List Record) → records_fit ws ≡ true → (r : Replayed) (s : Store ℤ) → Same r s → r.commits + length ws ≤ 4_294_967_295
    → Same (commit_all r ws) (model.commit_all s (map writeset_from ws)) × ((commit_all r ws).commits ≡ r.commits + length ws)
unfolding commit_all model.commit_all records_fit
all_same [] fit r s h u = (h, sym (add-zero r.commits))
all_same (w ∷ ws) fit r s h u =
    let f = both (record_fits w) (records_fit ws) fit in
    let e = bump_is r.commits (omega arith) in
    let a = all_same ws f.right (commit_one r w) (store_after (map write_of w.entries) s) (one_same w f.left r s h (omega arith)) (omega arith) in
    (a.0, let q = a.1 in omega arith)

pub writesets_seen : (b : List ℕ) → (message_in b).writesets ≡ map writeset_from (message_of b).records
unfolding message_in
writesets_seen b = refl

pub blocks_same : (n : ℕ) (bs : List (List ℕ)) → AllGood n bs → (r : Replayed) (s : Store ℤ) → Same r s → r.commits + writeset_count bs ≤ 4_294_967_295
    → Same (commit_blocks r bs) (model.commit_blocks s (map message_in bs))
unfolding commit_blocks model.commit_blocks writeset_count
blocks_same n [] g r s h u = h
blocks_same n (b ∷ bs) g r s h u =
    let e = good_taken n b (g b (Memᴰ.head refl)) in
    let c = counted b in
    let a = all_same (message_of b).records (records_fit_lem b e) r s h (omega arith) in
    let q = a.1 in
    blocks_same n bs (λ x m. g x (Memᴰ.tail m)) (commit_all r (writesets_in b)) (model.commit_all s (message_in b).writesets)
    (rw (writesets_read b e, writesets_seen b) a.0) (rw (writesets_read b e) (omega arith))
