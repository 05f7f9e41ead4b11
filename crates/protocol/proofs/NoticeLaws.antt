-- Laws of notices: what a list of them puts out, and the outages kept of it. Assumes nothing.
use Prim.Native.Nat.{◌<◌, ◌≤◌, ℕ}
use mathlib.Core.Path.{◌≡◌, refl}
use mathlib.Core.Bool.{Bool, ◌&&◌, false, true, cond}
use mathlib.Core.List.Memᴰ
use mathlib.Core.List.{List, [], ◌++◌, ◌∷◌}
use lib.Dec.{eqb, leb}
use borrow.Author.Tests.{eq-eqb, le-leb, le-ltb, lt-leb, lt-ltb, ne_eqb}
use Rattle.protocol.specs.Lists.{Mem, keep}
use Rattle.protocol.specs.Notices.{Notice, notices_about, out_by, puts_out, Outage, is_out, outage_after, outages_after, outages_of}
use Rattle.protocol.proofs.ListLaws.{less_by, keep_append}

pub out-append : (b : Bool) (l m : List Notice) (s : ℕ) → out_by b (l ++ m) s ≡ out_by (out_by b l s) m s
unfolding out_by
out-append b [] m s = refl
out-append b (n ∷ l) m s = out-append (cond (leb n.slot s) n.out b) l m s

-- notices of later slots put nothing out or back
pub out-ahead : (b : Bool) (l : List Notice) (s : ℕ) → ((n : Notice) → Mem n l → s < n.slot) → out_by b l s ≡ b
unfolding out_by
out-ahead b [] s f = refl
out-ahead b (n ∷ l) s f = rw (lt-leb n.slot s (f n (Memᴰ.head refl))) (out-ahead b l s (λ m h. f m (Memᴰ.tail h)))

pub outages_snoc : (limit : ℕ) (f : ℕ → Outage) (l : List Notice) (n : Notice) → outages_of limit f (l ++ (n ∷ [])) ≡ outages_after limit (outages_of limit f l) n
unfolding outages_of
outages_snoc limit f [] n = refl
outages_snoc limit f (m ∷ l) n = outages_snoc limit (outages_after limit f m) l n

-- one more notice about the replica, or about another
pub puts_about : (l : List Notice) (n : Notice) (k s : ℕ) → n.about ≡ k → puts_out (l ++ (n ∷ [])) k s ≡ cond (leb n.slot s) n.out (puts_out l k s)
unfolding keep out_by
puts_about l n k s e = rw (keep_append (λ (m : Notice). eqb m.about k) l (n ∷ []), eq-eqb n.about k e) (out-append false (notices_about k l) (n ∷ []) s)

pub puts_other : (l : List Notice) (n : Notice) (k s : ℕ) → (n.about ≡ k → ⊥) → puts_out (l ++ (n ∷ [])) k s ≡ puts_out l k s
unfolding keep out_by
puts_other l n k s d = rw (keep_append (λ (m : Notice). eqb m.about k) l (n ∷ []), ne_eqb n.about k d) (out-append false (notices_about k l) [] s)

-- the outage after an Out that comes when the last is over, and after a Back
pub out-after : (limit : ℕ) (o : Outage) (n : Notice) (s : ℕ) → n.out ≡ true → o.until ≤ s → s < limit → is_out (outage_after limit o n) s ≡ cond (leb n.slot s) n.out (is_out o s)
out-after limit o n s e u h = rw (e, lt-ltb s limit h, le-ltb s o.until u) (go (leb n.slot s) (leb o.from s))
  where
    go : (a b : Bool) → (a && true) ≡ cond a true (b && false)
    go true b = refl
    go false true = refl
    go false false = refl

pub back-after : (limit : ℕ) (o : Outage) (n : Notice) (s : ℕ) → n.out ≡ false → o.until ≡ limit → s < limit → is_out (outage_after limit o n) s ≡ cond (leb n.slot s) n.out (is_out o s)
back-after limit o n s e u h = rw (e, u, lt-ltb s limit h) (less_by s n.slot
    (λ g. rw (lt-ltb s n.slot g, lt-leb n.slot s g) refl) (λ g. rw (le-ltb s n.slot g, le-leb n.slot s g) (no (leb o.from s))))
  where
    no : (a : Bool) → (a && false) ≡ false
    no true = refl
    no false = refl
