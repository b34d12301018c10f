-- Looking numbers up by paths.
use Rattle.std.specs.Prelude.{◌≡◌, ℕ, List, Vec, bytes_eq, IfSome, Option, Some, None, if◌then◌else◌}
use Rattle.std.specs.declared.alloc.Global.{Global}
use Rattle.std.specs.HashMap.{HashMap, get_by}
use Rattle.aml_data.specs.Segment.{joined}
use Rattle.pw_text.specs.declared.path_index.PathIndex.{PathIndex}
use Rattle.pw_text.specs.declared.path_index.Spelled.{Spelled}
use Rattle.pw_text.specs.Forms.{name_of, named_from}

-- the number that a map has for segments, one behind the other
abbrev pub led_by : {S : Type 0} → HashMap (Vec ℕ Global) ℕ S → Vec ℕ Global → Option ℕ
led_by m name = get_by (λ k. bytes_eq name.items k.items) m

-- The map leads from the segments of these elements, numbered from n on, to their numbers.
abbrev pub LeadsTo : {X S : Type 0} → (X → List (List ℕ)) → ℕ → List X → HashMap (Vec ℕ Global) ℕ S → Type 0
LeadsTo segs n xs m = (q : Vec ℕ Global) → led_by m q ≡ named_from segs n xs q.items

-- The new map leads from this key to n, and from all others to where the old one leads.
abbrev pub KeyLeadsAlso : {S : Type 0} → List ℕ → ℕ → HashMap (Vec ℕ Global) ℕ S → HashMap (Vec ℕ Global) ℕ S → Type 0
KeyLeadsAlso key n old new = (q : Vec ℕ Global) → led_by new q ≡ (if bytes_eq key q.items then Some n else led_by old q)

-- So it does from these segments.
abbrev pub LeadsAlso : {S : Type 0} → List (List ℕ) → ℕ → HashMap (Vec ℕ Global) ℕ S → HashMap (Vec ℕ Global) ℕ S → Type 0
LeadsAlso segs n old new = KeyLeadsAlso (joined segs) n old new

-- # Paths as they are spelled

-- the number that a map has for a text
abbrev pub spelled_by : {S : Type 0} → HashMap Spelled ℕ S → Spelled → Option ℕ
spelled_by m text = get_by (λ k. bytes_eq text.bytes.items k.bytes.items) m

-- The new map leads from this text to n, and from all others to where the old one leads.
abbrev pub TextLeadsAlso : {S : Type 0} → List ℕ → ℕ → HashMap Spelled ℕ S → HashMap Spelled ℕ S → Type 0
TextLeadsAlso text n old new = (q : Spelled) → spelled_by new q ≡ (if bytes_eq text q.bytes.items then Some n else spelled_by old q)

-- The text is a path, and its segments lead there, or nowhere.
pub record Leads (I : PathIndex) (text : List ℕ) (found : Option ℕ) : Type 0 where
  pub name : Vec ℕ Global
  pub is : name_of text ≡ Some name.items
  pub to : led_by I.names name ≡ found

-- Each text that leads somewhere leads where its segments do.
abbrev pub AreSpelled : PathIndex → Type 0
AreSpelled I = (q : Spelled) → IfSome (spelled_by I.texts q) (λ n. Leads I q.bytes.items (Some n))

-- where a text leads as a path, if it is one
abbrev pub IsFound : PathIndex → List ℕ → Option (Option ℕ) → Type 0
IsFound I text None = name_of text ≡ None
IsFound I text (Some found) = Leads I text found

-- The index leads from the paths of these elements to their numbers.
abbrev pub IsIndexOf : {X : Type 0} → (X → List (List ℕ)) → List X → PathIndex → Type 0
IsIndexOf segs xs I = LeadsTo segs 0 xs I.names × AreSpelled I
