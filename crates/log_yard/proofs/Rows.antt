-- What a change does to both rows.
use Rattle.std.proofs.Common.{◌≡◌, ℕ, Bool, true, false, cond, ◌&&◌, eqb, List, is_some, Some, None, Option, sym, refl, ap, ◌∙◌, ⊎_elim}
use Rattle.std.proofs.lemmas.Bool.{eqb-true, eqb-false, cond-false, cond-true, cases_Bool}
use Rattle.ordered.specs.Meaning.{lookup, same, inserted, removed, updated}
use Rattle.ordered.proofs.Lookups.{lookup_inserted, lookup_removed, lookup_updated, same_not}
use Rattle.logs.specs.declared.log.Place.TheVariants as place
use Rattle.logs.specs.declared.keys.Tag.{Tag}
use Rattle.logs.specs.declared.keys.Size.{Size}
use Rattle.logs.specs.declared.log.Rest.{Rest}
use Rattle.logs.specs.declared.log.Body.{Body}
use Rattle.logs.specs.Orders.{tag_before, size_before}
use Rattle.log_yard.specs.Sizes.{size_of}
use Rattle.log_yard.specs.Tells.{at, bay_at}
use Rattle.logs.specs.Lex.{tag_order, size_order}
use Rattle.log_yard.proofs.Counts.{same_tag}

pub at_inserted : (row : List (Tag × Rest)) (t : ℕ) (r : Rest) (q : ℕ) → at (inserted tag_before row (record { 0 = t }) r) q ≡ cond (eqb q t) (Some r) (at row q)
at_inserted row t r q = lookup_inserted tag_order row (record { 0 = t }) r (record { 0 = q }) ∙ ap (λ b. cond b (Some r) (at row q)) (same_tag t q)

pub at_removed : (row : List (Tag × Rest)) (t q : ℕ) → at (removed tag_before row (record { 0 = t })) q ≡ cond (eqb q t) None (at row q)
at_removed row t q = lookup_removed tag_order row (record { 0 = t }) (record { 0 = q }) ∙ ap (λ b. cond b None (at row q)) (same_tag t q)

and_true : (b : Bool) → (b && true) ≡ b
and_true true = refl
and_true false = refl

pub at_updated : (row : List (Tag × Rest)) (t : ℕ) (r : Rest) (q : ℕ) → is_some (at row t) ≡ true → at (updated tag_before row (record { 0 = t }) r) q ≡ cond (eqb q t) (Some r) (at row q)
at_updated row t r q s =
    lookup_updated tag_order row (record { 0 = t }) r (record { 0 = q })
    ∙ ap (λ b. cond (same tag_before (record { 0 = t }) (record { 0 = q }) && b) (Some r) (at row q)) s
    ∙ ap (λ b. cond b (Some r) (at row q)) (and_true _ ∙ same_tag t q)

-- keys of two tags are not the same
tags_apart : (t : ℕ) (b : Body) (k : Size) → eqb k.tag t ≡ false → same size_before (size_of t b) k ≡ false
tags_apart t b k n = same_not size_order (size_of t b) k (λ e. eqb-false k.tag t n (sym (ap (λ (x : Size). x.tag) e)))

-- both rows change at one tag
module _ (tags tags' : List (Tag × Rest)) (sizes sizes' : List (Size × ℕ)) (t : ℕ) (new : Option Rest) where
  pub bays_after :
      ((q : ℕ) → at tags' q ≡ cond (eqb q t) new (at tags q))
      → ((k : Size) → lookup size_before sizes' k ≡ cond (eqb k.tag t) (bay_at new k) (lookup size_before sizes k))
      → ((k : Size) → lookup size_before sizes k ≡ bay_at (at tags k.tag) k)
      → (k : Size) → lookup size_before sizes' k ≡ bay_at (at tags' k.tag) k
  bays_after a s old k =
      s k ∙ ap (cond (eqb k.tag t) (bay_at new k)) (old k) ∙ turn (eqb k.tag t) ∙ sym (ap (λ o. bay_at o k) (a k.tag))
    where
      turn : (b : Bool) → cond b (bay_at new k) (bay_at (at tags k.tag) k) ≡ bay_at (cond b new (at tags k.tag)) k
      turn true = refl
      turn false = refl

-- a log comes to stand
pub sizes_put : (old : Option Rest) (sizes : List (Size × ℕ)) (t : ℕ) (b : Body) → ((k : Size) → k.tag ≡ t → lookup size_before sizes k ≡ None) → (k : Size) → lookup size_before (inserted size_before sizes (size_of t b) b.bay) k ≡ cond (eqb k.tag t) (bay_at (Some (record { body = b; place = place.Standing })) k) (lookup size_before sizes k)
sizes_put old sizes t b none k =
    lookup_inserted size_order sizes (size_of t b) b.bay k ∙ ⊎_elim here apart (cases_Bool (eqb k.tag t))
  where
    here : eqb k.tag t ≡ true → cond (same size_before (size_of t b) k) (Some b.bay) (lookup size_before sizes k) ≡ cond (eqb k.tag t) (bay_at (Some (record { body = b; place = place.Standing })) k) (lookup size_before sizes k)
    here e =
        let q = eqb-true k.tag t e in
        ap (cond (same size_before (size_of t b) k) (Some b.bay)) (none k q)
        ∙ ap (λ n. cond (same size_before (size_of n b) k) (Some b.bay) None) (sym q)
        ∙ sym (cond-true (eqb k.tag t) _ _ e)

    apart : eqb k.tag t ≡ false → cond (same size_before (size_of t b) k) (Some b.bay) (lookup size_before sizes k) ≡ cond (eqb k.tag t) (bay_at (Some (record { body = b; place = place.Standing })) k) (lookup size_before sizes k)
    apart e = cond-false _ _ _ (tags_apart t b k e) ∙ sym (cond-false (eqb k.tag t) _ _ e)

-- a standing log goes
pub sizes_take : (sizes : List (Size × ℕ)) (t : ℕ) (b : Body) → ((k : Size) → k.tag ≡ t → lookup size_before sizes k ≡ bay_at (Some (record { body = b; place = place.Standing })) k) → (k : Size) → lookup size_before (removed size_before sizes (size_of t b)) k ≡ cond (eqb k.tag t) None (lookup size_before sizes k)
sizes_take sizes t b some k =
    lookup_removed size_order sizes (size_of t b) k ∙ ⊎_elim here apart (cases_Bool (eqb k.tag t))
  where
    twice : (s : Bool) (o : Option ℕ) → o ≡ cond s (Some b.bay) None → cond s None o ≡ None
    twice true o e = refl
    twice false o e = e

    here : eqb k.tag t ≡ true → cond (same size_before (size_of t b) k) None (lookup size_before sizes k) ≡ cond (eqb k.tag t) None (lookup size_before sizes k)
    here e =
        let q = eqb-true k.tag t e in
        twice (same size_before (size_of t b) k) (lookup size_before sizes k) (some k q ∙ ap (λ n. cond (same size_before (size_of n b) k) (Some b.bay) None) q)
        ∙ sym (cond-true (eqb k.tag t) None (lookup size_before sizes k) e)

    apart : eqb k.tag t ≡ false → cond (same size_before (size_of t b) k) None (lookup size_before sizes k) ≡ cond (eqb k.tag t) None (lookup size_before sizes k)
    apart e = cond-false _ _ _ (tags_apart t b k e) ∙ sym (cond-false (eqb k.tag t) None (lookup size_before sizes k) e)
