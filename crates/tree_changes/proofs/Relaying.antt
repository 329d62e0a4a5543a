-- A block of leaves replaced by another of as many slots: the other leaves stay, and so do most first keys.
use Rattle.std.proofs.Common.{◌≡◌, ℕ, suc, ◌+◌, ◌*◌, ◌<◌, ◌≤◌, Bool, List, ◌++◌, length, drop, sym, ap, ◌∙◌, subst, arith}
use Rattle.std.proofs.lemmas.List.{length-append}
use Rattle.ordered.specs.declared.slot.Slot.{Slot}
use Rattle.ordered.specs.Meaning.{Ascending}
use Rattle.ordered.specs.Slots.{pairs, Packed, first_key}
use Rattle.ordered.proofs.Walks.{head_of}
use Rattle.ordered.proofs.Slots.{pairs_append, key_of, first_key_lem}
use Rattle.tree_layout.specs.Levels.{leaf_at}
use Rattle.leaf_rows.specs.Leaves.{Leafed}
use Rattle.leaf_rows.proofs.Blocks.{leaf_before, leaf_inside, leaf_after, drop_after, drop_before}
use Rattle.leaf_rows.proofs.Landing.{head_behind, pick}

-- The leaves ys changed into zs: they are packed and in order, and the first key from a leaf on is another only for leaves
-- after `low` up to `high`.
pub record Relaid {K R : Type 0} (b : K → K → Bool) (m n : ℕ) (ys : List (Slot K R)) (low high : ℕ) (zs : List (Slot K R)) : Type 0 where
  pub leafed : Leafed b m n zs
  pub keys_low : (p : ℕ) → 0 < p → p ≤ low → first_key (drop (p * m) zs) ≡ first_key (drop (p * m) ys)
  pub keys_high : (p : ℕ) → high < p → first_key (drop (p * m) zs) ≡ first_key (drop (p * m) ys)

module _ {K R : Type 0} {b : K → K → Bool} (m n : ℕ) (ys : List (Slot K R)) (lf : Leafed b m n ys) (lo j : ℕ)
    (A S T C : List (Slot K R)) (parts : ys ≡ A ++ (S ++ C)) (la : length A ≡ lo * m) (ls : length S ≡ suc j * m) (lt : length T ≡ suc j * m) where
  abbrev zs : List (Slot K R)
  zs = A ++ (T ++ C)

  same_leaf : (q : ℕ) → leaf_at m zs q ≡ leaf_at m (A ++ (S ++ C)) q → leaf_at m zs q ≡ leaf_at m ys q
  same_leaf q e = e ∙ ap (λ (us : List (Slot K R)). leaf_at m us q) (sym parts)

  pub leaf_stays_before : (q : ℕ) → q < lo → leaf_at m zs q ≡ leaf_at m ys q
  leaf_stays_before q l = same_leaf q (leaf_before m n lo j A S T C la ls lt q l)

  pub leaf_stays_after : (q : ℕ) → lo + j < q → leaf_at m zs q ≡ leaf_at m ys q
  leaf_stays_after q l = same_leaf q (leaf_after m n lo j A S T C la ls lt q l)

  pub leafed_again : ((i : ℕ) → i ≤ j → Packed (leaf_at m T i)) → Ascending b (pairs zs) → Leafed b m n zs
  leafed_again packed ascending = record {
    long = omega (arith, length-append A (T ++ C), length-append T C, length-append A (S ++ C), length-append S C, ls, lt, ap length parts, lf.long);
    packed = λ p l. pick (λ q. Packed (leaf_at m zs q)) lo j n p l
        (λ q l q<n. subst Packed (sym (leaf_stays_before q l)) (lf.packed q q<n))
        (λ i l. subst Packed (sym (leaf_inside m n lo j A S T C la ls lt i l)) (packed i l))
        (λ q l q<n. subst Packed (sym (leaf_stays_after q l)) (lf.packed q q<n));
    ascending = ascending;
  }

  split_pairs : (p : ℕ) (Z : List (Slot K R)) → pairs (drop (p * m) A ++ (Z ++ C)) ≡ pairs (drop (p * m) A) ++ (pairs Z ++ pairs C)
  split_pairs p Z = pairs_append (drop (p * m) A) (Z ++ C) ∙ ap (λ ps. pairs (drop (p * m) A) ++ ps) (pairs_append Z C)

  -- the first key from a leaf up to the block on stays where that of the block does
  pub keys_before : key_of (head_of (pairs T ++ pairs C)) ≡ key_of (head_of (pairs S ++ pairs C)) → (p : ℕ) → p ≤ lo → first_key (drop (p * m) zs) ≡ first_key (drop (p * m) ys)
  keys_before heads p l =
      first_key_lem (drop (p * m) zs) ∙ ap (λ ss. key_of (head_of (pairs ss))) (drop_before m n lo j A S T C la ls lt (T ++ C) p l)
      ∙ ap (λ ps. key_of (head_of ps)) (split_pairs p T)
      ∙ head_behind (pairs (drop (p * m) A)) (pairs T ++ pairs C) (pairs S ++ pairs C) heads
      ∙ sym (first_key_lem (drop (p * m) ys) ∙ ap (λ us. key_of (head_of (pairs (drop (p * m) us)))) parts ∙ ap (λ ss. key_of (head_of (pairs ss))) (drop_before m n lo j A S T C la ls lt (S ++ C) p l) ∙ ap (λ ps. key_of (head_of ps)) (split_pairs p S))

  pub keys_after : (p : ℕ) → lo + j < p → first_key (drop (p * m) zs) ≡ first_key (drop (p * m) ys)
  keys_after p l = ap first_key (drop_after m n lo j A S T C la ls lt p l ∙ ap (λ us. drop (p * m) us) (sym parts))
