-- What a yard over two indexes holds, and how a call changes it.
use Rattle.std.specs.Prelude.{◌≡◌, ℕ, ◌≤◌, min, cond, ◌&&◌, ◌⊎◌, List, ◌∷◌, length, Some, None, Ok, Err, Option, Result}
use Rattle.ordered.specs.declared.index.OrderedIndex.{Ghosts}
use Rattle.ordered.specs.Meaning.{lookup, same}
use Rattle.logs.specs.declared.call.Call.{Call}
use Rattle.logs.specs.declared.keys.Size.{Size}
use Rattle.logs.specs.declared.keys.Tag.{Tag}
use Rattle.logs.specs.declared.log.Body.{Body}
use Rattle.logs.specs.declared.log.Log.{Log}
use Rattle.logs.specs.declared.log.Place.{Place}
use Rattle.logs.specs.declared.log.Place.TheVariants as place
use Rattle.logs.specs.declared.log.Rest.{Rest}
use Rattle.logs.specs.Limits.{TagOk, BodyOk}
use Rattle.logs.specs.Orders.{tag_before, size_before}
use Rattle.log_yard.specs.declared.answer.Answer.{Answer}
use Rattle.log_yard.specs.declared.refusal.Refusal.{Refusal}
use Rattle.log_yard.specs.declared.yard.Yard.{Yard}
use Rattle.log_yard.specs.History.{Loaded, History, log_at, Event}
use Rattle.log_yard.specs.Law.{Lawful, Runs, extended}
use Rattle.log_yard.specs.Refusals.{refusal_number}
use Rattle.log_yard.specs.Sizes.{size_of, stands, tally}

-- the log with the tag t, of a row of the tag index
abbrev pub at : List (Tag × Rest) → ℕ → Option Rest
at row t = lookup tag_before row (record { 0 = t })

-- what the size index has at a key, by what the tag index has
abbrev pub bay_at : Option Rest → Size → Option ℕ
bay_at None k = None
bay_at (Some r) k = cond (stands r && same size_before (size_of k.tag r.body) k) (Some r.body.bay) None

-- What a tag is asked for: its log in the row, or 14 outside the limits, 22 absent.
abbrev pub Sought : List (Tag × Rest) → ℕ → Result Rest Refusal → Type 0
Sought row t (Ok r) = TagOk t × (at row t ≡ Some r)
Sought row t (Err e) = ((refusal_number e ≡ 14) × (TagOk t → ⊥)) ⊎ ((refusal_number e ≡ 22) × TagOk t × (at row t ≡ None))

-- the place where a log is that is not at p, and the number under which it is refused there
abbrev pub elsewhere : Place → Place
elsewhere place.Standing = place.AtSaw
elsewhere place.AtSaw = place.Standing

abbrev pub place_number : Place → ℕ
place_number place.Standing = 24
place_number place.AtSaw = 23

-- What a tag is asked for at the place p: the log that is there, or 14 outside the limits, 22 absent, 23 at the saw, 24 standing.
abbrev pub SoughtAt : List (Tag × Rest) → ℕ → Place → Result Body Refusal → Type 0
SoughtAt row t p (Ok b) = TagOk t × (at row t ≡ Some (record { body = b; place = p }))
SoughtAt row t p (Err e) = Sought row t (Err e) ⊎ ((refusal_number e ≡ place_number (elsewhere p)) × TagOk t × ((b : Body) × (at row t ≡ Some (record { body = b; place = elsewhere p }))))

-- The two rows agree: the size index has exactly the standing logs.
pub record Agree (tags : List (Tag × Rest)) (sizes : List (Size × ℕ)) : Type 0 where
  pub bays : (k : Size) → lookup size_before sizes k ≡ bay_at (at tags k.tag) k
  pub count : length sizes ≡ tally stands tags
  pub limits : (t : ℕ) (r : Rest) → at tags t ≡ Some r → TagOk t × BodyOk r.body

-- a refusal changes nothing
abbrev pub Stays : {Y : Type 0} → Result Answer Refusal → Y → Y → Type 0
Stays (Ok a) y y' = Unit {0}
Stays (Err e) y y' = y' ≡ y

module _ {T S : Type 0} (t : Ghosts T Tag Rest) (s : Ghosts S Size ℕ) where
  -- the lesser of the two
  abbrev pub capacity : Yard T S → ℕ
  capacity y = min (t.room y.tags) (s.room y.sizes)

  pub record Sound (y : Yard T S) : Type 0 where
    pub tags_kept : t.kept y.tags
    pub sizes_kept : s.kept y.sizes
    pub agree : Agree (t.row y.tags) (s.row y.sizes)
    pub room : length (t.row y.tags) ≤ capacity y

  -- The yard is as the loaded logs and the history say.
  pub record Tells (cap : ℕ) (ls : Loaded) (h : History) (y : Yard T S) : Type 0 where
    pub sound : Sound y
    pub capped : capacity y ≡ cap
    pub logs : (n : ℕ) → at (t.row y.tags) n ≡ log_at ls h n

  -- Whatever was loaded and called before: the call obeys the law, and the yard tells of it after.
  abbrev pub Obeys : Yard T S → Event → Yard T S → Type 0
  Obeys y e y' = (cap : ℕ) (ls : Loaded) (h : History) → Tells cap ls h y → Lawful cap ls h e × Tells cap ls (e ∷ h) y'

  -- So does a whole run of calls.
  abbrev pub ObeysAll : Yard T S → List Call → List (Result Answer Refusal) → List Log → List Log → Yard T S → Type 0
  ObeysAll y calls answers p p' y' = (cap : ℕ) (ls : Loaded) (h : History) → Tells cap ls h y
      → (es : List Event) × Runs cap ls h calls answers p p' es × Tells cap ls (extended h es) y'

  -- A call that is answered: it obeys the law, and a refusal changes nothing.
  pub record Performs (y : Yard T S) (c : Call) (r : Result Answer Refusal) (p p' : List Log) (y' : Yard T S) : Type 0 where
    pub law : Obeys y (record { call = c; answer = r; before = p; after = p' }) y'
    pub still : Stays r y y'
    pub page : Stays r p p'

  -- A call that leaves the page as it is.
  abbrev pub PerformsOffPage : Yard T S → Call → Result Answer Refusal → Yard T S → Type 0
  PerformsOffPage y c r y' = (p : List Log) → Performs y c r p p y'
