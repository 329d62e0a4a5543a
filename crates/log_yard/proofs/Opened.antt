-- The opening of a yard over the loaded logs.
use Rattle.std.proofs.Common.{◌≡◌, ℕ, ◌+◌, ◌<◌, ◌≤◌, min, cond, eqb, List, [], ◌∷◌, ◌++◌, length, Some, None, Option, Result, sym, refl, ap, ◌∙◌, subst, ⊎_elim, arith, length-append}
use Rattle.std.proofs.lemmas.Bool.{eqb-true}
use Rattle.ordered.specs.declared.fault.Fault.{Fault}
use Rattle.ordered.specs.declared.index.OrderedIndex.{Ghosts}
use Rattle.ordered.specs.Meaning.{lookup, Ascending}
use Rattle.log_yard.specs.Sizes.{tally}
use Rattle.ordered.specs.Promises.{Puts}
use Rattle.log_yard.proofs.Tallies.{tally_inserted, tally_length}
use Rattle.ordered.proofs.Walks.{front_lacks, inserted_last}
use Rattle.logs.specs.declared.log.Place.TheVariants as place
use Rattle.logs.specs.declared.keys.Tag.{Tag}
use Rattle.logs.specs.declared.keys.Size.{Size}
use Rattle.logs.specs.declared.log.Rest.{Rest}
use Rattle.logs.specs.Orders.{tag_before, size_before}
use Rattle.log_yard.specs.Sizes.{size_of, stands}
use Rattle.logs.specs.Limits.{TagOk, BodyOk}
use Rattle.log_yard.specs.History.{standing, at_saw, placed, body_of, spot_of}
use Rattle.log_yard.specs.Tells.{at, bay_at, Tells}
use Rattle.log_yard.specs.Opens.{AllFit, Fills}
use Rattle.logs.specs.Lex.{tag_order}
use Rattle.log_yard.proofs.Rows.{at_inserted, bays_after}
use Rattle.log_yard.proofs.Steps.{rest_is}
use Rattle.log_yard.proofs.Changes.{SizeStep, Down, size_put, size_still, down_none, down_saw, at_cases}

at_push : (pre ps : List (Tag × Rest)) (p : Tag × Rest) → Ascending tag_before (pre ++ (p ∷ ps)) → (q : ℕ) → at (pre ++ (p ∷ [])) q ≡ cond (eqb q p.0.0) (Some p.1) (at pre q)
at_push pre ps p asc q = ap (λ row. at row q) (sym (inserted_last tag_order p ps pre asc)) ∙ at_inserted pre p.0.0 p.1 q

pub within_push : (pre ps : List (Tag × Rest)) (p : Tag × Rest) → Ascending tag_before (pre ++ (p ∷ ps)) → AllFit pre → TagOk p.0.0 → BodyOk p.1.body → AllFit (pre ++ (p ∷ []))
within_push pre ps p asc w tok bok t r e = ⊎_elim
    (λ c. (subst TagOk (sym (eqb-true t p.0.0 c.0)) tok, subst (λ (z : Rest). BodyOk z.body) (inside p.1 r c.1) bok))
    (λ c. w t r c)
    (at_cases (eqb t p.0.0) (Some p.1) (at pre t) r (sym (at_push pre ps p asc t) ∙ e))
  where
    inside : (x y : Rest) → Some x ≡ Some y → x ≡ y
    inside x y e = cc

tally_push : (pre ps : List (Tag × Rest)) (p : Tag × Rest) → Ascending tag_before (pre ++ (p ∷ ps)) → tally stands (pre ++ (p ∷ [])) ≡ cond (stands p.1) 1 0 + tally stands pre
tally_push pre ps p asc = ap (tally stands) (sym (inserted_last tag_order p ps pre asc)) ∙ tally_inserted stands tag_before pre p.0 p.1

module _ {S : Type 0} (s : Ghosts S Size ℕ) (old now new : S) (row pre ps : List (Tag × Rest)) (p : Tag × Rest) (asc_row : Ascending tag_before row) (whole : row ≡ pre ++ (p ∷ ps)) (f : Fills s pre old now) where
  asc : Ascending tag_before (pre ++ (p ∷ ps))
  asc = subst (Ascending tag_before) whole asc_row

  -- the log of the next pair is counted, whether it stands or not
  filled_on : SizeStep s now new p.0.0 None (Some p.1) → Fills s (pre ++ (p ∷ [])) old new
  filled_on step = record {
    sizes_kept = step.kept;
    room = step.room ∙ f.room;
    stood = record {
      bays = bays_after pre (pre ++ (p ∷ [])) (s.row now) (s.row new) p.0.0 (Some p.1) (at_push pre ps p asc) step.is f.stood.bays;
      count = omega (arith, step.count, f.stood.count, tally_push pre ps p asc);
    };
  }

  under : (k : Size) → k.tag ≡ p.0.0 → lookup size_before (s.row now) k ≡ None
  under k e = f.stood.bays k ∙ ap (λ o. bay_at o k) (ap (at pre) e ∙ front_lacks tag_order p ps pre asc)

  pub fill_standing : {X : Type 0} (k : Size) (r : Result X Fault) → length row ≤ s.room old → p.1.place ≡ place.Standing → k ≡ size_of p.0.0 p.1.body
      → Puts s.row s.room s.kept size_before now k p.1.body.bay r new
      → Fills s (pre ++ (p ∷ [])) old new
  fill_standing k r room pl ke put =
      let few : length (s.row now) < s.room now = omega (arith, f.room, room, f.stood.count, tally_length stands pre, ap length whole, length-append pre (p ∷ ps)) in
      filled_on (size_put s now new p.0.0 None (Some p.1) f.sizes_kept under r p.1.body k ke (ap Some (rest_is p.1 place.Standing pl)) down_none few put)

  pub fill_at_saw : new ≡ now → p.1.place ≡ place.AtSaw → Fills s (pre ++ (p ∷ [])) old new
  fill_at_saw e pl =
      filled_on (size_still s now new p.0.0 None (Some p.1) f.sizes_kept under e down_none (subst Down (ap Some (sym (rest_is p.1 place.AtSaw pl))) (down_saw p.1.body)))

-- a log that was loaded is where its record put it
pub loaded_at_lem : (o : Option Rest) → o ≡ placed (body_of o) (spot_of o)
loaded_at_lem None = refl
loaded_at_lem (Some r) = go r.place refl
  where
    go : (p : place.the_data) → r.place ≡ p → Some r ≡ placed (Some r.body) (elim p [ place.Standing ↦ standing | place.AtSaw ↦ at_saw ])
    go place.Standing e = ap Some (rest_is r place.Standing e)
    go place.AtSaw e = ap Some (rest_is r place.AtSaw e)

-- the yard as it is opened
pub opened : {T S : Type 0} (t : Ghosts T Tag Rest) (s : Ghosts S Size ℕ) (x : T) (z z' : S) → t.kept x → length (t.row x) ≤ min (t.room x) (s.room z) → AllFit (t.row x) → Fills s (t.row x) z z' → Tells t s (min (t.room x) (s.room z)) (t.row x) [] (record { tags = x; sizes = z' })
opened t s x z z' kt few w f = record {
  sound = record {
    tags_kept = kt;
    sizes_kept = f.sizes_kept;
    agree = record { bays = f.stood.bays; count = f.stood.count; limits = w };
    room = omega (arith, few, f.room);
  };
  capped = ap (min (t.room x)) f.room;
  logs = λ n. loaded_at_lem (at (t.row x) n);
}

pub empty_row : (row : List (Size × ℕ)) → length row ≡ 0 → row ≡ []
empty_row [] e = refl
empty_row (p ∷ ps) e = absurd (omega (arith, e))
