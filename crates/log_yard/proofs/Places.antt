-- Where each log is after one more call.
use Rattle.std.proofs.Common.{◌≡◌, ℕ, Bool, true, false, cond, eqb, List, ◌∷◌, Some, None, Ok, Option, sym, refl, ap, ◌∙◌, ⊎_elim}
use Rattle.std.proofs.lemmas.Bool.{eqb-true, cases_Bool, cond-true, cond-false}
use Rattle.logs.specs.declared.species.Species.{Species}
use Rattle.logs.specs.declared.log.Place.TheVariants as place
use Rattle.logs.specs.declared.log.Rest.{Rest}
use Rattle.logs.specs.declared.log.Body.{Body}
use Rattle.logs.specs.declared.log.Log.{Log}
use Rattle.logs.specs.declared.call.Call.TheVariants.{Arrive, Withdraw, Call as Calls, Back}
use Rattle.log_yard.specs.declared.answer.Answer.TheVariants.{Done, Found}
use Rattle.log_yard.specs.History.{Loaded, History, Spot, standing, at_saw, gone, log_at, placed, or_else, value_or, body, spot, last_change, last_given, spot_of, body_of, loaded_at}
use Rattle.log_yard.specs.History.{event}

after_arrive : (c : Bool) (b : Body) (og lb : Option Body) (oc : Option Spot) (d : Spot) → placed (or_else (or_else (cond c (Some b) None) og) lb) (value_or (or_else (cond c (Some standing) None) oc) d) ≡ cond c (Some (record { body = b; place = place.Standing })) (placed (or_else og lb) (value_or oc d))
after_arrive true b og lb oc d = refl
after_arrive false b og lb oc d = refl

pub logs_arrive : (ls : Loaded) (h : History) (p : List Log) (n : ℕ) (b : Body) (q : ℕ) → log_at ls (event (Arrive n b) (Ok Done) p ∷ h) q ≡ cond (eqb q n) (Some (record { body = b; place = place.Standing })) (log_at ls h q)
logs_arrive ls h p n b q = after_arrive (eqb q n) b (last_given h q) (body_of (loaded_at ls q)) (last_change h q) (spot_of (loaded_at ls q))

after_spot : (c : Bool) (w : Spot) (o : Option Body) (oc : Option Spot) (d : Spot) → placed o (value_or (or_else (cond c (Some w) None) oc) d) ≡ cond c (placed o w) (placed o (value_or oc d))
after_spot true w o oc d = refl
after_spot false w o oc d = refl

-- at the tag itself
at_tag : {X : Type 0} (q n : ℕ) (f : ℕ → X) (x y : X) → f n ≡ x → cond (eqb q n) (f q) y ≡ cond (eqb q n) x y
at_tag q n f x y e = ⊎_elim
    (λ t. cond-true (eqb q n) (f q) y t ∙ ap f (eqb-true q n t) ∙ e ∙ sym (cond-true (eqb q n) x y t))
    (λ t. cond-false (eqb q n) (f q) y t ∙ sym (cond-false (eqb q n) x y t))
    (cases_Bool (eqb q n))

placed_gone : (o : Option Body) → placed o gone ≡ None
placed_gone None = refl
placed_gone (Some b) = refl

placed_body : (o : Option Body) (s : Spot) (r : Rest) → placed o s ≡ Some r → o ≡ Some r.body
placed_body None s r e = cc
placed_body (Some b) standing r e = let x : record { body = b; place = place.Standing } ≡ r = cc in ap (λ (z : Rest). Some z.body) x
placed_body (Some b) at_saw r e = let x : record { body = b; place = place.AtSaw } ≡ r = cc in ap (λ (z : Rest). Some z.body) x
placed_body (Some b) gone r e = cc

module _ (ls : Loaded) (h : History) (p : List Log) (n : ℕ) where
  -- so does SAW: it puts a log where WITHDRAW does
  pub logs_withdraw : (q : ℕ) → log_at ls (event (Withdraw n) (Ok Done) p ∷ h) q ≡ cond (eqb q n) None (log_at ls h q)
  logs_withdraw q = after_spot (eqb q n) gone (body ls h q) (last_change h q) (spot_of (loaded_at ls q)) ∙ ap (λ o. cond (eqb q n) o (log_at ls h q)) (placed_gone (body ls h q))

  module _ (r : Rest) (was : log_at ls h n ≡ Some r) where
    pub logs_back : (q : ℕ) → log_at ls (event (Back n) (Ok Done) p ∷ h) q ≡ cond (eqb q n) (Some (record { body = r.body; place = place.Standing })) (log_at ls h q)
    logs_back q =
        after_spot (eqb q n) standing (body ls h q) (last_change h q) (spot_of (loaded_at ls q))
        ∙ at_tag q n (λ m. placed (body ls h m) standing) (Some (record { body = r.body; place = place.Standing })) (log_at ls h q) (ap (λ o. placed o standing) (placed_body (body ls h n) (spot ls h n) r was))

    pub logs_call : (s : Species) (d l : ℕ) (x : Log) → x.tag ≡ n → (q : ℕ) → log_at ls (event (Calls s d l) (Ok (Found x)) p ∷ h) q ≡ cond (eqb q n) (Some (record { body = r.body; place = place.AtSaw })) (log_at ls h q)
    logs_call s d l x e q =
        after_spot (eqb q x.tag) at_saw (body ls h q) (last_change h q) (spot_of (loaded_at ls q))
        ∙ ap (λ m. cond (eqb q m) (placed (body ls h q) at_saw) (log_at ls h q)) e
        ∙ at_tag q n (λ m. placed (body ls h m) at_saw) (Some (record { body = r.body; place = place.AtSaw })) (log_at ls h q) (ap (λ o. placed o at_saw) (placed_body (body ls h n) (spot ls h n) r was))
