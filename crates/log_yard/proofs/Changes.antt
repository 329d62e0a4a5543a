-- What a change of each index at one tag does to what the yard tells.
use Rattle.std.proofs.Common.{◌≡◌, ℕ, ◌+◌, ◌<◌, ◌≤◌, min, Bool, true, false, cond, eqb, ◌⊎◌, ◌∷◌, length, is_some, Some, None, Option, Result, sym, refl, ap, ◌∙◌, subst, inl, inr, ⊎_elim, arith}
use Rattle.std.proofs.lemmas.Bool.{eqb-true, cond-false, cond-true, cases_Bool}
use Rattle.ordered.specs.declared.fault.Fault.{Fault}
use Rattle.ordered.specs.declared.index.OrderedIndex.{Ghosts}
use Rattle.ordered.specs.Meaning.{lookup}
use Rattle.ordered.specs.Promises.{Puts, Sets, Takes}
use Rattle.ordered.proofs.Done.{put_done, set_done, take_done}
use Rattle.ordered.proofs.Lookups.{length_removed, same_self}
use Rattle.ordered.proofs.Rows.{length_inserted, length_updated}
use Rattle.logs.specs.declared.keys.Tag.{Tag}
use Rattle.logs.specs.declared.keys.Size.{Size}
use Rattle.logs.specs.declared.log.Body.{Body}
use Rattle.logs.specs.declared.log.Place.TheVariants as place
use Rattle.logs.specs.declared.log.Rest.{Rest}
use Rattle.logs.specs.Lex.{tag_order, size_order}
use Rattle.logs.specs.Limits.{TagOk, BodyOk}
use Rattle.logs.specs.Orders.{tag_before, size_before}
use Rattle.log_yard.specs.declared.yard.Yard.{Yard}
use Rattle.log_yard.specs.History.{Loaded, History, Event, log_at}
use Rattle.log_yard.specs.Sizes.{size_of, stands, tally}
use Rattle.log_yard.specs.Tells.{at, bay_at, Tells, capacity}
use Rattle.log_yard.proofs.Rows.{at_inserted, at_removed, at_updated, bays_after, sizes_put, sizes_take}
use Rattle.log_yard.proofs.Tallies.{tally_inserted, tally_removed, tally_updated}

-- how many logs there are at a tag, and how many that stand
abbrev pub one : Option Rest → ℕ
one None = 0
one (Some r) = 1

abbrev pub up : Option Rest → ℕ
up None = 0
up (Some r) = cond (stands r) 1 0

abbrev pub tag_of : ℕ → Tag
tag_of n = record { 0 = n }

abbrev pub standing : Body → Rest
standing b = record { body = b; place = place.Standing }

abbrev pub sawing : Body → Rest
sawing b = record { body = b; place = place.AtSaw }

-- the tag index has `new` at the tag n, where it had `old`, and else what it had
pub record TagStep {T : Type 0} (t : Ghosts T Tag Rest) (x x' : T) (n : ℕ) (old new : Option Rest) : Type 0 where
  pub kept : t.kept x'
  pub room : t.room x' ≡ t.room x
  pub is : (q : ℕ) → at (t.row x') q ≡ cond (eqb q n) new (at (t.row x) q)
  pub count : tally stands (t.row x') + up old ≡ tally stands (t.row x) + up new
  pub long : length (t.row x') + one old ≡ length (t.row x) + one new

-- the size index has the bays of it
pub record SizeStep {S : Type 0} (s : Ghosts S Size ℕ) (z z' : S) (n : ℕ) (old new : Option Rest) : Type 0 where
  pub kept : s.kept z'
  pub room : s.room z' ≡ s.room z
  pub is : (k : Size) → lookup size_before (s.row z') k ≡ cond (eqb k.tag n) (bay_at new k) (lookup size_before (s.row z) k)
  pub count : length (s.row z') + up old ≡ length (s.row z) + up new

module _ {T X : Type 0} (t : Ghosts T Tag Rest) (x x' : T) (n : ℕ) (e : Result X Fault) (kt : t.kept x) where
  pub tag_put : (r : Rest) → at (t.row x) n ≡ None → length (t.row x) < t.room x → Puts t.row t.room t.kept tag_before x (tag_of n) r e x' → TagStep t x x' n None (Some r)
  tag_put r none few put =
      let row' = put_done t.row t.room t.kept tag_before x x' (tag_of n) e kt r put none few in
      record {
        kept = put.stays kt;
        room = put.capacity;
        is = λ q. ap (λ row. at row q) row' ∙ at_inserted (t.row x) n r q;
        count = omega (arith, ap (tally stands) row', tally_inserted stands tag_before (t.row x) (tag_of n) r);
        long = omega (arith, ap length row', length_inserted tag_before (t.row x) (tag_of n) r);
      }

  pub tag_set : (was r : Rest) → at (t.row x) n ≡ Some was → Sets t.row t.room t.kept tag_before x (tag_of n) r e x' → TagStep t x x' n (Some was) (Some r)
  tag_set was r there set =
      let row' = set_done t.row t.room t.kept tag_before x x' (tag_of n) e kt was r set there in
      record {
        kept = set.stays kt;
        room = set.capacity;
        is = λ q. ap (λ row. at row q) row' ∙ at_updated (t.row x) n r q (ap is_some there);
        count = omega (arith, ap (tally stands) row', tally_updated tag_order stands (tag_of n) was r (t.row x) (set.orderly kt).ascending there);
        long = omega (arith, ap length row', length_updated tag_before (t.row x) (tag_of n) r);
      }

  pub tag_take : (was : Rest) → at (t.row x) n ≡ Some was → Takes t.row t.room t.kept tag_before x (tag_of n) e x' → TagStep t x x' n (Some was) None
  tag_take was there take =
      let row' = take_done t.row t.room t.kept tag_before x x' (tag_of n) e kt was take there in
      record {
        kept = take.stays kt;
        room = take.capacity;
        is = λ q. ap (λ row. at row q) row' ∙ at_removed (t.row x) n q;
        count = omega (arith, ap (tally stands) row', tally_removed tag_order stands (tag_of n) was (t.row x) (take.orderly kt).ascending there);
        long = omega (arith, ap length row', length_removed tag_order (tag_of n) was (t.row x) (take.orderly kt).ascending there);
      }

-- no log stands there
pub record Down (o : Option Rest) : Type 0 where
  pub bay : (k : Size) → bay_at o k ≡ None
  pub count : up o ≡ 0

pub down_none : Down None
down_none = record { bay = λ _. refl; count = refl }

pub down_saw : (b : Body) → Down (Some (sawing b))
down_saw b = record { bay = λ _. refl; count = refl }

module _ {S : Type 0} (s : Ghosts S Size ℕ) (z z' : S) (n : ℕ) (old new : Option Rest) (ks : s.kept z) (here : (k : Size) → k.tag ≡ n → lookup size_before (s.row z) k ≡ bay_at old k) where
  pub size_put : {X : Type 0} (e : Result X Fault) (b : Body) (k : Size) → k ≡ size_of n b → new ≡ Some (standing b) → Down old → length (s.row z) < s.room z → Puts s.row s.room s.kept size_before z k b.bay e z' → SizeStep s z z' n old new
  size_put e b k ke ne down few put =
      let none : (q : Size) → q.tag ≡ n → lookup size_before (s.row z) q ≡ None = λ q g. here q g ∙ down.bay q in
      let put' = subst (λ q. Puts s.row s.room s.kept size_before z q b.bay e z') ke put in
      let row' = put_done s.row s.room s.kept size_before z z' (size_of n b) e ks b.bay put' (none (size_of n b) refl) few in
      record {
        kept = put.stays ks;
        room = put.capacity;
        is = λ q. ap (λ row. lookup size_before row q) row' ∙ sizes_put old (s.row z) n b none q ∙ ap (λ o. cond (eqb q.tag n) (bay_at o q) (lookup size_before (s.row z) q)) (sym ne);
        count = omega (arith, ap length row', length_inserted size_before (s.row z) (size_of n b) b.bay, down.count, ap up ne);
      }

  pub size_take : {X : Type 0} (e : Result X Fault) (b : Body) (k : Size) → k ≡ size_of n b → old ≡ Some (standing b) → Down new → Takes s.row s.room s.kept size_before z k e z' → SizeStep s z z' n old new
  size_take e b k ke oe down take =
      let some : (q : Size) → q.tag ≡ n → lookup size_before (s.row z) q ≡ bay_at (Some (standing b)) q = λ q g. here q g ∙ ap (λ o. bay_at o q) oe in
      let there : lookup size_before (s.row z) (size_of n b) ≡ Some b.bay = some (size_of n b) refl ∙ ap (λ c. cond c (Some b.bay) None) (same_self size_order (size_of n b)) in
      let take' = subst (λ q. Takes s.row s.room s.kept size_before z q e z') ke take in
      let row' = take_done s.row s.room s.kept size_before z z' (size_of n b) e ks b.bay take' there in
      record {
        kept = take.stays ks;
        room = take.capacity;
        is = λ q. ap (λ row. lookup size_before row q) row' ∙ sizes_take (s.row z) n b some q ∙ ap (λ o. cond (eqb q.tag n) o (lookup size_before (s.row z) q)) (sym (down.bay q));
        count = omega (arith, ap length row', length_removed size_order (size_of n b) b.bay (s.row z) (take.orderly ks).ascending there, down.count, ap up oe);
      }

  pub size_still : z' ≡ z → Down old → Down new → SizeStep s z z' n old new
  size_still e down down' = record {
    kept = subst s.kept (sym e) ks;
    room = ap s.room e;
    is = λ q. ap (λ w. lookup size_before (s.row w) q) e ∙ ⊎_elim
        (λ t. here q (eqb-true q.tag n t) ∙ down.bay q ∙ sym (cond-true (eqb q.tag n) (bay_at new q) (lookup size_before (s.row z) q) t ∙ down'.bay q))
        (λ t. sym (cond-false (eqb q.tag n) (bay_at new q) (lookup size_before (s.row z) q) t))
        (cases_Bool (eqb q.tag n));
    count = omega (arith, ap (λ w. length (s.row w)) e, down.count, down'.count);
  }

pub at_cases : (b : Bool) (new old : Option Rest) (r : Rest) → cond b new old ≡ Some r → ((b ≡ true) × (new ≡ Some r)) ⊎ (old ≡ Some r)
at_cases true new old r e = inl (refl, e)
at_cases false new old r e = inr e

module _ {T S : Type 0} (t : Ghosts T Tag Rest) (s : Ghosts S Size ℕ) (cap : ℕ) (ls : Loaded) (h : History) (y : Yard T S) (told : Tells t s cap ls h y) where
  -- a call that changes no log
  pub still : (e : Event) → ((q : ℕ) → log_at ls (e ∷ h) q ≡ log_at ls h q) → Tells t s cap ls (e ∷ h) y
  still e same = record { sound = told.sound; capped = told.capped; logs = λ q. told.logs q ∙ sym (same q) }

  -- what the size index has under a tag
  pub bays_at : (n : ℕ) (o : Option Rest) → at (t.row y.tags) n ≡ o → (k : Size) → k.tag ≡ n → lookup size_before (s.row y.sizes) k ≡ bay_at o k
  bays_at n o is k e = told.sound.agree.bays k ∙ ap (λ z. bay_at z k) (ap (at (t.row y.tags)) e ∙ is)

  -- one log changes
  pub changed : (e : Event) (y' : Yard T S) (n : ℕ) (old new : Option Rest) → TagStep t y.tags y'.tags n old new → SizeStep s y.sizes y'.sizes n old new
      → length (t.row y.tags) + one new ≤ capacity t s y + one old
      → ((r : Rest) → new ≡ Some r → TagOk n × BodyOk r.body)
      → ((q : ℕ) → log_at ls (e ∷ h) q ≡ cond (eqb q n) new (log_at ls h q))
      → Tells t s cap ls (e ∷ h) y'
  changed e y' n old new tags sizes room limits law =
      let agree = told.sound.agree in
      let caps : capacity t s y' ≡ capacity t s y = ap (λ m. min m (s.room y'.sizes)) tags.room ∙ ap (min (t.room y.tags)) sizes.room in
      record {
        sound = record {
          tags_kept = tags.kept;
          sizes_kept = sizes.kept;
          agree = record {
            bays = bays_after (t.row y.tags) (t.row y'.tags) (s.row y.sizes) (s.row y'.sizes) n new tags.is sizes.is agree.bays;
            count = omega (arith, agree.count, tags.count, sizes.count);
            limits = λ q r g. ⊎_elim
                (λ p. subst (λ m. TagOk m × BodyOk r.body) (sym (eqb-true q n p.0)) (limits r p.1))
                (λ p. agree.limits q r p)
                (at_cases (eqb q n) new (at (t.row y.tags) q) r (sym (tags.is q) ∙ g));
          };
          room = omega (arith, caps, room, tags.long);
        };
        capped = caps ∙ told.capped;
        logs = λ q. tags.is q ∙ ap (cond (eqb q n) new) (told.logs q) ∙ sym (law q);
      }
