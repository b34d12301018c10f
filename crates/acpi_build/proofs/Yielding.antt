-- What is made while it is remarked what counts as absent. Where no object means nothing, the notes that are added are those of
-- a set of causes, each once, and what is made has a property.
use Rattle.std.proofs.Common.{◌≡◌, ◌⊎◌, zero, suc, List, [], ◌∷◌, ◌++◌, map, get_or, append_assoc, refl, sym, ap, subst, ◌∙◌, inl, inr, arith}
use Rattle.std.specs.Prelude.{Contains}
use Rattle.std.specs.List.{AllZip}
use Rattle.std.proofs.lemmas.List.{append-nil, map-append}
use Rattle.std.proofs.lemmas.List.Elements.{Contains-append_cases, Contains-append_left, Contains-append_right, Contains-get_or}
use Rattle.acpi_values.specs.declared.fault.Place.{Place as place_in}
use Rattle.acpi_values.specs.declared.fault.Why.{Why}
use Rattle.acpi_space.specs.Distinct.{IsDistinct}
use Rattle.acpi_space.specs.Places.{Place}
use Rattle.acpi_build.specs.declared.note.Note.{Note}
use Rattle.acpi_build.specs.declared.note.NoteKind.{NoteKind}
use Rattle.acpi_build.specs.Building.{◌>>=◌, Build, Made, Remarks, after, built, done, each, fault_at, note_at, noted, refused}
use Rattle.acpi_build.specs.Causes.{Cause}
use Rattle.acpi_build.proofs.Parents.{pairs_append}
use Rattle.acpi_build.proofs.Steady.{IsSteady, Steady, one_more, steady_each, steady_then}

-- # Lists of causes

-- the list has all causes of a set, each once, and no other
pub record Lists (S : Cause → Type 0) (causes : List Cause) : Type 0 where
  pub once : IsDistinct causes
  pub only : (c : Cause) → Contains causes c → S c
  pub all : (c : Cause) → S c → Contains causes c

-- a set is two that have nothing in common
pub record Joins (S T U : Cause → Type 0) : Type 0 where
  pub apart : (c : Cause) → S c → T c → ⊥
  pub split : (c : Cause) → U c → S c ⊎ T c
  pub left : (c : Cause) → S c → U c
  pub right : (c : Cause) → T c → U c

pub joins_nothing : (S : Cause → Type 0) → Joins S (λ _. ⊥) S
joins_nothing S = record { apart = λ c s t. t; split = λ c s. inl s; left = λ c s. s; right = λ c t. absurd t }

pub joins_behind : (S : Cause → Type 0) → Joins (λ _. ⊥) S S
joins_behind S = record { apart = λ c s t. s; split = λ c s. inr s; left = λ c s. absurd s; right = λ c t. t }

pub lists_none : (S : Cause → Type 0) → ((c : Cause) → S c → ⊥) → Lists S []
lists_none S none = record {
  once = λ i j d less l. absurd (let impossible = l in omega arith);
  only = λ c among. absurd (let impossible = among.1 in omega arith);
  all = λ c s. absurd (none c s);
}

one_of : (c d : Cause) → Contains (c ∷ []) d → c ≡ d
one_of c d (zero, l, e) = e
one_of c d (suc k, l, e) = absurd (let impossible = l in omega arith)

pub lists_one : (S : Cause → Type 0) (c : Cause) → S c → ((d : Cause) → S d → d ≡ c) → Lists S (c ∷ [])
lists_one S c s same = record {
  once = λ i j d less l. absurd (omega (arith, less, l));
  only = λ d among. subst S (one_of c d among) s;
  all = λ d t. (0, omega arith, sym (same d t));
}

pub lists_both : (S T U : Cause → Type 0) (xs ys : List Cause) → Joins S T U → Lists S xs → Lists T ys → Lists U (xs ++ ys)
lists_both S T U xs ys joins first second = record {
  once = pairs_append (λ x y. x ≡ y → ⊥) xs ys first.once second.once (λ i j d l m same.
      joins.apart (get_or ys j d) (subst S same (first.only (get_or xs i d) (Contains-get_or xs i d l))) (second.only (get_or ys j d) (Contains-get_or ys j d m)));
  only = λ c among. elim (Contains-append_cases xs ys c among) [
    | inl before ↦ joins.left c (first.only c before)
    | inr behind ↦ joins.right c (second.only c behind)
  ];
  all = λ c u. elim (joins.split c u) [
    | inl s ↦ Contains-append_left xs ys c (first.all c s)
    | inr t ↦ Contains-append_right xs ys c (second.all c t)
  ];
}

pub lists_same : (S T : Cause → Type 0) (xs : List Cause) → ((c : Cause) → S c → T c) → ((c : Cause) → T c → S c) → Lists S xs → Lists T xs
lists_same S T xs to from lists = record {
  once = lists.once;
  only = λ c among. to c (lists.only c among);
  all = λ c t. lists.all c (from c t);
}

-- # What is made

-- the notes of a set of causes were added, each once, and what was made has a property
pub record Adds {A : Type 0} (note : Cause → Note) (S : Cause → Type 0) (P : A → Type 0) (old : List Note) (x : A) (new : List Note) : Type 0 where
  pub causes : List Cause
  pub grown : new ≡ old ++ map note causes
  pub lists : Lists S causes
  pub holds : P x

-- behind these remarks, where no fault is among those that it leaves
abbrev pub Told : {A : Type 0} → (Cause → Note) → (Cause → Type 0) → (A → Type 0) → Remarks → Made A → Type 0
Told note S P before (built x remarks) = remarks.faults ≡ [] → Adds note S P before.notes x remarks.notes

-- behind any remarks
abbrev pub Yields : {A : Type 0} → (Cause → Note) → (Cause → Type 0) → (A → Type 0) → Build A → Type 0
Yields note S P m = (before : Remarks) → Told note S P before (m before)

pub yields_done : {A : Type 0} (note : Cause → Note) (S : Cause → Type 0) (P : A → Type 0) (x : A) → ((c : Cause) → S c → ⊥) → P x → Yields note S P (done x)
yields_done note S P x none p before _ = record { causes = []; grown = sym (append-nil before.notes); lists = lists_none S none; holds = p }

pub yields_noted : {A : Type 0} (note : Cause → Note) (S : Cause → Type 0) (P : A → Type 0) (path : Place) (kind : NoteKind) (x : A) (c : Cause) → note c ≡ note_at path kind
    → S c → ((d : Cause) → S d → d ≡ c) → P x → Yields note S P (noted path kind x)
yields_noted note S P path kind x c is s same p before _ = record {
  causes = c ∷ [];
  grown = ap (λ n. before.notes ++ n ∷ []) (sym is);
  lists = lists_one S c s same;
  holds = p;
}

pub yields_refused : {A : Type 0} (note : Cause → Note) (S : Cause → Type 0) (P : A → Type 0) (path : Place) (place : place_in) (why : Why) (x : A)
    → Yields note S P (refused path place why x)
yields_refused note S P path place why x before none = absurd (one_more before.faults (fault_at path place why) none)

joined : {A B : Type 0} (note : Cause → Note) (S T U : Cause → Type 0) (P : A → Type 0) (Q : B → Type 0) (old mid new : List Note) (x : A) (y : B)
    → Joins S T U → Adds note S P old x mid → Adds note T Q mid y new → Adds note U Q old y new
joined note S T U P Q old mid new x y joins first second = record {
  causes = first.causes ++ second.causes;
  grown = second.grown ∙ ap (λ l. l ++ map note second.causes) first.grown ∙ append_assoc old (map note first.causes) (map note second.causes)
      ∙ ap (λ l. old ++ l) (sym (map-append note first.causes second.causes));
  lists = lists_both S T U first.causes second.causes joins first.lists second.lists;
  holds = second.holds;
}

next_told : {A B : Type 0} (note : Cause → Note) (S T U : Cause → Type 0) (P : A → Type 0) (Q : B → Type 0) (before mid : Remarks) (x : A) (r : Made B)
    → Joins S T U → IsSteady mid r → (mid.faults ≡ [] → Adds note S P before.notes x mid.notes) → (P x → Told note T Q mid r) → Told note U Q before r
next_told note S T U P Q before mid x (built y remarks) joins steady first next = λ none.
    let one = first (steady none) in
    joined note S T U P Q before.notes mid.notes remarks.notes x y joins one (next one.holds none)

then_told : {A B : Type 0} (note : Cause → Note) (S T U : Cause → Type 0) (P : A → Type 0) (Q : B → Type 0) (before : Remarks) (r : Made A) (f : A → Build B)
    → Joins S T U → ((x : A) → Steady (f x)) → Told note S P before r → ((x : A) → P x → Yields note T Q (f x)) → Told note U Q before (after r f)
then_told note S T U P Q before (built x mid) f joins steady first next =
    next_told note S T U P Q before mid x (f x mid) joins (steady x mid) first (λ p. next x p mid)

-- one thing and then the next
pub yields_then : {A B : Type 0} (note : Cause → Note) (S T U : Cause → Type 0) (P : A → Type 0) (Q : B → Type 0) (m : Build A) (f : A → Build B)
    → Joins S T U → ((x : A) → Steady (f x)) → Yields note S P m → ((x : A) → P x → Yields note T Q (f x)) → Yields note U Q (m >>= f)
yields_then note S T U P Q m f joins steady first next before = then_told note S T U P Q before (m before) f joins steady (first before) next

same_told : {A : Type 0} (note : Cause → Note) (S T : Cause → Type 0) (P Q : A → Type 0) (before : Remarks) (r : Made A)
    → ((c : Cause) → S c → T c) → ((c : Cause) → T c → S c) → ((x : A) → P x → Q x) → Told note S P before r → Told note T Q before r
same_told note S T P Q before (built x remarks) to from p told = λ none.
    let adds = told none in
    record { causes = adds.causes; grown = adds.grown; lists = lists_same S T adds.causes to from adds.lists; holds = p x adds.holds }

-- the same set and a weaker property
pub yields_same : {A : Type 0} (note : Cause → Note) (S T : Cause → Type 0) (P Q : A → Type 0) (m : Build A)
    → ((c : Cause) → S c → T c) → ((c : Cause) → T c → S c) → ((x : A) → P x → Q x) → Yields note S P m → Yields note T Q m
yields_same note S T P Q m to from p told before = same_told note S T P Q before (m before) to from p (told before)

-- # Of each in order

pub later : {X : Type 0} (x : X) (xs : List X) (y : X) → Contains xs y → Contains (x ∷ xs) y
later x xs y (k, l, e) = (suc k, omega (arith, l), e)

-- the set of one of these
abbrev pub Among : {X : Type 0} → (X → Cause → Type 0) → List X → Cause → Type 0
Among {X} S xs c = (x : X) × Contains xs x × S x c

not_among : {X : Type 0} (S : X → Cause → Type 0) (c : Cause) → Among S [] c → ⊥
not_among S c (x, (k, l, e), s) = let impossible = l in omega arith

first_or_later : {X : Type 0} (S : X → Cause → Type 0) (x : X) (xs : List X) (c : Cause) → Among S (x ∷ xs) c → S x c ⊎ Among S xs c
first_or_later S x xs c (y, (zero, l, e), s) = inl (subst (λ z. S z c) (sym e) s)
first_or_later S x xs c (y, (suc k, l, e), s) = inr (y, (k, (omega (arith, l)), e), s)

joins_each : {X : Type 0} (S : X → Cause → Type 0) (x : X) (xs : List X) → IsDistinct (x ∷ xs) → ((y z : X) (c : Cause) → S y c → S z c → y ≡ z) → Joins (S x) (Among S xs) (Among S (x ∷ xs))
joins_each S x xs distinct one = record {
  apart = λ c s other. let (k, l, e) = other.1 in distinct 0 (suc k) other.0 (omega arith) (omega (arith, l)) (one x other.0 c s other.2 ∙ sym e);
  split = first_or_later S x xs;
  left = λ c s. (x, (0, omega arith, refl), s);
  right = λ c other. (other.0, later x xs other.0 other.1, other.2);
}

pub yields_each : {X A : Type 0} (note : Cause → Note) (S : X → Cause → Type 0) (P : X → A → Type 0) (f : X → Build A) (xs : List X) → IsDistinct xs
    → ((y z : X) (c : Cause) → S y c → S z c → y ≡ z) → ((x : X) → Steady (f x)) → ((x : X) → Contains xs x → Yields note (S x) (P x) (f x))
    → Yields note (Among S xs) (AllZip P xs) (each f xs)
yields_each note S P f [] distinct one steady each_one = yields_done note (Among S []) (AllZip P []) [] (not_among S) tt
yields_each note S P f (x ∷ xs) distinct one steady each_one =
    let R = AllZip P (x ∷ xs) in
    yields_then note (S x) (Among S xs) (Among S (x ∷ xs)) (P x) R (f x) (λ y. each f xs >>= λ ys. done (y ∷ ys)) (joins_each S x xs distinct one)
    (λ y. steady_then (each f xs) (λ ys. done (y ∷ ys)) (steady_each f xs steady) (λ ys before none. none))
    (each_one x (0, omega arith, refl)) (λ y p.
    yields_then note (Among S xs) (λ _. ⊥) (Among S xs) (AllZip P xs) R (each f xs) (λ ys. done (y ∷ ys)) (joins_nothing (Among S xs))
    (λ ys before none. none)
    (yields_each note S P f xs (λ i j d less l. distinct (suc i) (suc j) d (omega arith) (omega (arith, l))) one steady (λ z among. each_one z (later x xs z among))) (λ ys ps.
    yields_done note (λ _. ⊥) R (y ∷ ys) (λ c s. s) (p, ps)))
