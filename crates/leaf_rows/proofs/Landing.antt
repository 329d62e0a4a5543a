-- A block of leaves with one more pair in it.
use Rattle.std.proofs.Common.{◌≡◌, ℕ, zero, suc, ◌+◌, ◌-◌, ◌*◌, ◌<◌, ◌≤◌, min, max, Bool, false, cond, eqb, List, [], ◌∷◌, ◌++◌, length, take, drop, sym, refl, ap, ◌∙◌, subst, ⊎_elim, append_assoc, add-mul, arith}
use Rattle.std.proofs.lemmas.List.{length-append, take-append-drop, drop-drop}
use Rattle.std.proofs.lemmas.Bool.{cases_lt, ne_eqb}
use Rattle.std.proofs.Math.Nat.{suc-mul}
use Rattle.ordered.specs.declared.slot.Slot.{Slot}
use Rattle.ordered.specs.Meaning.{Order, After, Ascending, holds, inserted, Before}
use Rattle.ordered.specs.Slots.{pairs, Packed, first_key}
use Rattle.ordered.proofs.Rows.{ascending_inserted}
use Rattle.ordered.proofs.Walks.{head_of}
use Rattle.ordered.proofs.Slots.{pairs_append, key_of, first_key_lem}
use Rattle.ordered.proofs.Joins.{inserted_between}
use Rattle.tree_layout.specs.Levels.{leaf_at}
use Rattle.leaf_rows.specs.Leaves.{count_at, Leafed, Nearest, PutIn}
use Rattle.leaf_rows.proofs.Blocks.{leaf_before, leaf_inside, leaf_after, drop_after, drop_before}

-- three stretches of a row of slots
pub stretches : {X : Type 0} (m lo j : ℕ) (ys : List X) → ys ≡ take (lo * m) ys ++ (take (suc j * m) (drop (lo * m) ys) ++ drop (suc (lo + j) * m) ys)
stretches m lo j ys =
    let q : lo * m + suc j * m ≡ suc (lo + j) * m = omega (arith, suc-mul j m, suc-mul (lo + j) m, add-mul lo j m) in
    sym (take-append-drop (lo * m) ys)
    ∙ ap (λ zs. take (lo * m) ys ++ zs) (sym (take-append-drop (suc j * m) (drop (lo * m) ys)) ∙ ap (λ zs. take (suc j * m) (drop (lo * m) ys) ++ zs) (drop-drop (suc j * m) (lo * m) ys ∙ ap (λ k. drop k ys) q))

module _ {K R : Type 0} where
  pub head_behind : (us vs ws : List (K × R)) → key_of (head_of vs) ≡ key_of (head_of ws) → key_of (head_of (us ++ vs)) ≡ key_of (head_of (us ++ ws))
  head_behind [] vs ws e = e
  head_behind (u ∷ us) vs ws e = refl

  pub head_front : (a : ℕ) (row us vs : List (K × R)) → 0 < a → a ≤ length row → key_of (head_of (take a row ++ us)) ≡ key_of (head_of (row ++ vs))
  head_front zero row us vs p l = absurd (omega (arith, p))
  head_front (suc a) [] us vs p l = absurd (omega (arith, l))
  head_front (suc a) (r ∷ row) us vs p l = refl

-- a leaf is before the block, in it or after it
pub pick : (F : ℕ → Type 0) (lo j n p : ℕ) → p < n → ((q : ℕ) → q < lo → q < n → F q) → ((i : ℕ) → i ≤ j → F (lo + i)) → ((q : ℕ) → lo + j < q → q < n → F q) → F p
pick F lo j n p l before inside after = ⊎_elim
    (λ a. before p a l)
    (λ a. ⊎_elim (λ c. after p c l) (λ c. let e : lo + (p - lo) ≡ p = omega (arith, a) in subst F e (inside (p - lo) (omega (arith, a, c)))) (cases_lt (lo + j) p))
    (cases_lt p lo)

module _ {K R : Type 0} {b : K → K → Bool} (o : Order b) (m n : ℕ) (ys : List (Slot K R)) (lf : Leafed b m n ys) (k : K) (v : R) (t : ℕ) (absent : holds b (pairs ys) k ≡ false)
    (r lo j : ℕ) (near : Nearest m n ys t r) (el : lo ≡ min t r) (eh : lo + j ≡ max t r)
    (A S T C : List (Slot K R)) (parts : ys ≡ A ++ (S ++ C)) (la : length A ≡ lo * m) (ls : length S ≡ suc j * m) (lt : length T ≡ suc j * m)
    (P N : List (K × R)) (es : pairs S ≡ P ++ N) (et : pairs T ≡ P ++ ((k, v) ∷ N)) (bf : Before b k (pairs A ++ P)) (af : After b k (N ++ pairs C))
    (packed : (i : ℕ) → i ≤ j → Packed (leaf_at m T i)) (counts : (i : ℕ) → i ≤ j → count_at m T i ≡ count_at m ys (lo + i) + cond (eqb (lo + i) r) 1 0)
    (heads : 0 < lo → key_of (head_of (pairs T ++ pairs C)) ≡ key_of (head_of (pairs S ++ pairs C))) where
  abbrev zs : List (Slot K R)
  zs = A ++ (T ++ C)

  long_is : length zs ≡ n * m
  long_is = omega (arith, length-append A (T ++ C), length-append T C, length-append A (S ++ C), length-append S C, ls, lt, ap length parts, lf.long)

  split_pairs : (p : ℕ) (Z : List (Slot K R)) → pairs (drop (p * m) A ++ (Z ++ C)) ≡ pairs (drop (p * m) A) ++ (pairs Z ++ pairs C)
  split_pairs p Z = pairs_append (drop (p * m) A) (Z ++ C) ∙ ap (λ ps. pairs (drop (p * m) A) ++ ps) (pairs_append Z C)

  row_is : pairs zs ≡ inserted b (pairs ys) k v
  row_is =
      pairs_append A (T ++ C) ∙ ap (λ ps. pairs A ++ ps) (pairs_append T C ∙ ap (λ ps. ps ++ pairs C) et ∙ append_assoc P ((k, v) ∷ N) (pairs C)) ∙ sym (append_assoc (pairs A) P ((k, v) ∷ (N ++ pairs C)))
      ∙ sym (ap (λ ps. inserted b ps k v)
      (ap pairs parts ∙ pairs_append A (S ++ C) ∙ ap (λ ps. pairs A ++ ps) (pairs_append S C ∙ ap (λ ps. ps ++ pairs C) es ∙ append_assoc P N (pairs C)) ∙ sym (append_assoc (pairs A) P (N ++ pairs C)))
      ∙ inserted_between o k (pairs A ++ P) (N ++ pairs C) v bf af)

  same_leaf : (q : ℕ) → leaf_at m zs q ≡ leaf_at m (A ++ (S ++ C)) q → leaf_at m zs q ≡ leaf_at m ys q
  same_leaf q e = e ∙ ap (λ (us : List (Slot K R)). leaf_at m us q) (sym parts)

  outside : (q : ℕ) → leaf_at m zs q ≡ leaf_at m (A ++ (S ++ C)) q → (q ≡ r → ⊥) → count_at m zs q ≡ count_at m ys q + cond (eqb q r) 1 0
  outside q e ne =
      let z : cond {A = ℕ} (eqb q r) 1 0 ≡ 0 = ap (λ x. cond {A = ℕ} x 1 0) (ne_eqb q r ne) in
      omega (arith, z, ap (λ ss. length (pairs ss)) (same_leaf q e))

  pub put_block : PutIn b m n ys k v t lo (lo + j) zs
  put_block = record {
    r = r;
    lands = near;
    low_is = el;
    high_is = eh;
    leafed = record {
      long = long_is;
      packed = λ p l. pick (λ q. Packed (leaf_at m zs q)) lo j n p l
          (λ q l q<n. subst Packed (sym (same_leaf q (leaf_before m n lo j A S T C la ls lt q l))) (lf.packed q q<n))
          (λ i l. subst Packed (sym (leaf_inside m n lo j A S T C la ls lt i l)) (packed i l))
          (λ q l q<n. subst Packed (sym (same_leaf q (leaf_after m n lo j A S T C la ls lt q l))) (lf.packed q q<n));
      ascending = subst (Ascending b) (sym row_is) (ascending_inserted o (pairs ys) k v absent lf.ascending);
    };
    row = row_is;
    counts = λ p l. pick (λ q. count_at m zs q ≡ count_at m ys q + cond (eqb q r) 1 0) lo j n p l
        (λ q l q<n. outside q (leaf_before m n lo j A S T C la ls lt q l) (λ e. omega (arith, e, l, el, eh)))
        (λ i l. ap (λ ss. length (pairs ss)) (leaf_inside m n lo j A S T C la ls lt i l) ∙ counts i l)
        (λ q l q<n. outside q (leaf_after m n lo j A S T C la ls lt q l) (λ e. omega (arith, e, l, el, eh)));
    keys_low = λ p p0 l.
        first_key_lem (drop (p * m) zs) ∙ ap (λ ss. key_of (head_of (pairs ss))) (drop_before m n lo j A S T C la ls lt (T ++ C) p l)
        ∙ ap (λ ps. key_of (head_of ps)) (split_pairs p T)
        ∙ head_behind (pairs (drop (p * m) A)) (pairs T ++ pairs C) (pairs S ++ pairs C) (heads (omega (arith, p0, l)))
        ∙ sym (first_key_lem (drop (p * m) ys) ∙ ap (λ us. key_of (head_of (pairs (drop (p * m) us)))) parts ∙ ap (λ ss. key_of (head_of (pairs ss))) (drop_before m n lo j A S T C la ls lt (S ++ C) p l) ∙ ap (λ ps. key_of (head_of ps)) (split_pairs p S));
    keys_high = λ p l. ap first_key (drop_after m n lo j A S T C la ls lt p l ∙ ap (λ us. drop (p * m) us) (sym parts));
  }
