-- Causes of notes in the order in which they are found.
use Rattle.std.proofs.Common.{◌≡◌, ◌⊎◌, ℕ, zero, suc, ◌+◌, ◌*◌, ◌<◌, ◌≤◌, Bool, true, false, List, [], ◌∷◌, length, get_or, refl, sym, ap, ◌∙◌, inl, inr, arith}
use Rattle.std.proofs.lemmas.Bool.{cases_lt, false≢true}
use Rattle.acpi_space.specs.Namespace.{Entry}
use Rattle.pw_plan.specs.declared.plan.Plan.{Plan}
use Rattle.acpi_build.specs.declared.names.Name.{Name}
use Rattle.acpi_build.specs.declared.names.Name.TheVariants as names
use Rattle.acpi_build.specs.Building.{Build}
use Rattle.acpi_build.specs.Building.{◌>>=◌, done}
use Rattle.acpi_build.specs.Causes.{Cause, by_method, by_alias, of_no_states, beside_lpi, of_no_such_state, of_unfit_domain, IsCause, note_of}
use Rattle.acpi_build.proofs.Steady.{Steady}
use Rattle.acpi_build.proofs.Yielding.{Joins, Yields, yields_done, yields_same, yields_then}

-- # Their order

-- the cause is one of object k
abbrev pub IsOf : ℕ → Cause → Type 0
IsOf k (by_method i name) = i ≡ k
IsOf k (by_alias i name) = i ≡ k
IsOf k (of_no_states i name) = i ≡ k
IsOf k (beside_lpi i) = i ≡ k
IsOf k (of_no_such_state i j) = i ≡ k
IsOf k (of_unfit_domain d) = ⊥

-- the place of a name in the order in which tables are read
abbrev pub slot : Name → ℕ
slot names.Lpi = 0
slot names.Cst = 1
slot names.Csd = 2
slot names.Pss = 3
slot names.Pct = 4
slot names.Ppc = 5
slot names.Psd = 6
slot names.Tss = 7
slot names.Ptc = 8
slot names.Tpc = 9
slot names.Tsd = 10
slot names.Cpc = 11
slot names.Hid = 12

abbrev name_at : ℕ → Name
name_at n = get_or (names.Lpi ∷ names.Cst ∷ names.Csd ∷ names.Pss ∷ names.Pct ∷ names.Ppc ∷ names.Psd ∷ names.Tss ∷ names.Ptc ∷ names.Tpc ∷ names.Tsd ∷ names.Cpc ∷ []) n names.Hid

name_is : (name : Name) → name_at (slot name) ≡ name
name_is names.Lpi = refl
name_is names.Cst = refl
name_is names.Csd = refl
name_is names.Pss = refl
name_is names.Pct = refl
name_is names.Ppc = refl
name_is names.Psd = refl
name_is names.Tss = refl
name_is names.Ptc = refl
name_is names.Tpc = refl
name_is names.Tsd = refl
name_is names.Cpc = refl
name_is names.Hid = refl

same_name : (m n : Name) → slot m ≡ slot n → m ≡ n
same_name m n e = sym (name_is m) ∙ ap name_at e ∙ name_is n

-- all but `_HID` are tables
pub is_table : (name : Name) → (name ≡ names.Hid → ⊥) → slot name < 12
is_table names.Hid other = absurd (other refl)
is_table names.Lpi other = omega arith
is_table names.Cst other = omega arith
is_table names.Csd other = omega arith
is_table names.Pss other = omega arith
is_table names.Pct other = omega arith
is_table names.Ppc other = omega arith
is_table names.Psd other = omega arith
is_table names.Tss other = omega arith
is_table names.Ptc other = omega arith
is_table names.Tpc other = omega arith
is_table names.Tsd other = omega arith
is_table names.Cpc other = omega arith

-- three places for each name
abbrev pub rank : Cause → ℕ
rank (by_method k name) = 3 * slot name
rank (by_alias k name) = 3 * slot name
rank (of_no_states k name) = 3 * slot name + 1
rank (beside_lpi k) = 5
rank (of_no_such_state k j) = 8
rank (of_unfit_domain d) = 0

-- the causes that object k has, from rank a up to b
pub record In (entries : List Entry) (plan : Plan) (k a b : ℕ) (c : Cause) : Type 0 where
  pub own : IsOf k c
  pub low : a ≤ rank c
  pub high : rank c < b
  pub given : IsCause entries plan c

-- # Causes of a rank

-- of the first rank of a name
pub first_there : (entries : List Entry) (plan : Plan) (k a : ℕ) (name : Name) → 3 * slot name ≡ a → (c : Cause) → In entries plan k a (a + 1) c → (c ≡ by_method k name) ⊎ (c ≡ by_alias k name)
first_there entries plan k a name at (by_method i m) s = let n = same_name m name (omega (arith, at, s.low, s.high)) in let o = s.own in inl (cc (n, o))
first_there entries plan k a name at (by_alias i m) s = let n = same_name m name (omega (arith, at, s.low, s.high)) in let o = s.own in inr (cc (n, o))
first_there entries plan k a name at (of_no_states i m) s = absurd (omega (arith, at, s.low, s.high))
first_there entries plan k a name at (beside_lpi i) s = absurd (omega (arith, at, s.low, s.high))
first_there entries plan k a name at (of_no_such_state i j) s = absurd (omega (arith, at, s.low, s.high))
first_there entries plan k a name at (of_unfit_domain d) s = absurd s.own

-- of the second
pub second_there : (entries : List Entry) (plan : Plan) (k a : ℕ) (name : Name) → 3 * slot name ≡ a → (c : Cause) → In entries plan k (a + 1) (a + 2) c → c ≡ of_no_states k name
second_there entries plan k a name at (by_method i m) s = absurd (omega (arith, at, s.low, s.high))
second_there entries plan k a name at (by_alias i m) s = absurd (omega (arith, at, s.low, s.high))
second_there entries plan k a name at (of_no_states i m) s = let n = same_name m name (omega (arith, at, s.low, s.high)) in let o = s.own in cc (n, o)
second_there entries plan k a name at (beside_lpi i) s = absurd (omega (arith, at, s.low, s.high))
second_there entries plan k a name at (of_no_such_state i j) s = absurd (omega (arith, at, s.low, s.high))
second_there entries plan k a name at (of_unfit_domain d) s = absurd s.own

-- none of the third but two
pub third_free : (entries : List Entry) (plan : Plan) (k a : ℕ) (name : Name) → 3 * slot name ≡ a → (a < 3) ⊎ (6 < a) → (c : Cause) → In entries plan k (a + 2) (a + 3) c → ⊥
third_free entries plan k a name at apart (by_method i m) s = omega (arith, at, s.low, s.high)
third_free entries plan k a name at apart (by_alias i m) s = omega (arith, at, s.low, s.high)
third_free entries plan k a name at apart (of_no_states i m) s = omega (arith, at, s.low, s.high)
third_free entries plan k a name at apart (beside_lpi i) s = elim apart [ inl less ↦ omega (arith, less, s.low, s.high) | inr more ↦ omega (arith, more, s.low, s.high) ]
third_free entries plan k a name at apart (of_no_such_state i j) s = elim apart [ inl less ↦ omega (arith, less, s.low, s.high) | inr more ↦ omega (arith, more, s.low, s.high) ]
third_free entries plan k a name at apart (of_unfit_domain d) s = s.own

-- the two
pub beside_there : (entries : List Entry) (plan : Plan) (k : ℕ) (c : Cause) → In entries plan k 5 6 c → c ≡ beside_lpi k
beside_there entries plan k (by_method i m) s = absurd (omega (arith, s.low, s.high))
beside_there entries plan k (by_alias i m) s = absurd (omega (arith, s.low, s.high))
beside_there entries plan k (of_no_states i m) s = absurd (omega (arith, s.low, s.high))
beside_there entries plan k (beside_lpi i) s = ap beside_lpi s.own
beside_there entries plan k (of_no_such_state i j) s = absurd (omega (arith, s.low, s.high))
beside_there entries plan k (of_unfit_domain d) s = absurd s.own

pub entry_there : (entries : List Entry) (plan : Plan) (k : ℕ) (c : Cause) → In entries plan k 8 9 c → (j : ℕ) × (c ≡ of_no_such_state k j)
entry_there entries plan k (by_method i m) s = absurd (omega (arith, s.low, s.high))
entry_there entries plan k (by_alias i m) s = absurd (omega (arith, s.low, s.high))
entry_there entries plan k (of_no_states i m) s = absurd (omega (arith, s.low, s.high))
entry_there entries plan k (beside_lpi i) s = absurd (omega (arith, s.low, s.high))
entry_there entries plan k (of_no_such_state i j) s = (j, ap (λ n. of_no_such_state n j) s.own)
entry_there entries plan k (of_unfit_domain d) s = absurd s.own

-- # What is made of an object, from rank to rank

abbrev pub Makes : {A : Type 0} → List Entry → Plan → ℕ → ℕ → ℕ → (A → Type 0) → Build A → Type 0
Makes entries plan k a b P m = Yields (note_of entries plan) (In entries plan k a b) P m

joins_in : (entries : List Entry) (plan : Plan) (k a b c : ℕ) → a ≤ b → b ≤ c → Joins (In entries plan k a b) (In entries plan k b c) (In entries plan k a c)
joins_in entries plan k a b c l m = record {
  apart = λ d s t. omega (arith, s.high, t.low);
  split = λ d u. elim (cases_lt (rank d) b) [
    | inl below ↦ inl (record { own = u.own; low = u.low; high = below; given = u.given })
    | inr past ↦ inr (record { own = u.own; low = past; high = u.high; given = u.given })
  ];
  left = λ d s. record { own = s.own; low = s.low; high = omega (arith, m, s.high); given = s.given };
  right = λ d t. record { own = t.own; low = omega (arith, l, t.low); high = t.high; given = t.given };
}

pub makes_then : {A B : Type 0} (entries : List Entry) (plan : Plan) (k a b c : ℕ) (P : A → Type 0) (Q : B → Type 0) (m : Build A) (f : A → Build B) → a ≤ b → b ≤ c
    → ((x : A) → Steady (f x)) → Makes entries plan k a b P m → ((x : A) → P x → Makes entries plan k b c Q (f x)) → Makes entries plan k a c Q (m >>= f)
makes_then entries plan k a b c P Q m f l h steady first next =
    yields_then (note_of entries plan) (In entries plan k a b) (In entries plan k b c) (In entries plan k a c) P Q m f (joins_in entries plan k a b c l h) steady first next

pub makes_done : {A : Type 0} (entries : List Entry) (plan : Plan) (k a : ℕ) (P : A → Type 0) (x : A) → P x → Makes entries plan k a a P (done x)
makes_done entries plan k a P x p = yields_done (note_of entries plan) (In entries plan k a a) P x (λ c s. omega (arith, s.low, s.high)) p

-- up to a later rank, where no cause is between
pub makes_up_to : {A : Type 0} (entries : List Entry) (plan : Plan) (k a b c : ℕ) (P : A → Type 0) (m : Build A) → a ≤ b → b ≤ c → ((d : Cause) → In entries plan k b c d → ⊥)
    → Makes entries plan k a b P m → Makes entries plan k a c P m
makes_up_to entries plan k a b c P m l h none made =
    yields_same (note_of entries plan) (In entries plan k a b) (In entries plan k a c) P P m
    (λ d s. record { own = s.own; low = s.low; high = omega (arith, h, s.high); given = s.given })
    (λ d s. elim (cases_lt (rank d) b) [
      | inl below ↦ record { own = s.own; low = s.low; high = below; given = s.given }
      | inr past ↦ absurd (none d (record { own = s.own; low = past; high = s.high; given = s.given }))
    ])
    (λ x p. p) made

-- # Causes by number

-- the cause of some element that passes a test, by its number, that of the first being i
abbrev pub Numbered : {X : Type 0} → (ℕ → Cause) → (X → Bool) → X → ℕ → List X → Cause → Type 0
Numbered make test d i xs c = (j : ℕ) × (c ≡ make (i + j)) × (j < length xs) × (test (get_or xs j d) ≡ true)

pub none_numbered : {X : Type 0} (make : ℕ → Cause) (test : X → Bool) (d : X) (i : ℕ) (c : Cause) → Numbered make test d i [] c → ⊥
none_numbered make test d i c (j, is, l, passes) = let impossible = l in omega arith

pub onward : {X : Type 0} (make : ℕ → Cause) (test : X → Bool) (d : X) (i : ℕ) (x : X) (xs : List X) (c : Cause) → Numbered make test d (i + 1) xs c → Numbered make test d i (x ∷ xs) c
onward make test d i x xs c (j, is, l, passes) = (suc j, is ∙ ap make (omega arith), omega (arith, l), passes)

here_or_onward : {X : Type 0} (make : ℕ → Cause) (test : X → Bool) (d : X) (i : ℕ) (x : X) (xs : List X) (c : Cause) → Numbered make test d i (x ∷ xs) c
    → ((c ≡ make i) × (test x ≡ true)) ⊎ Numbered make test d (i + 1) xs c
here_or_onward make test d i x xs c (zero, is, l, passes) = inl (is ∙ ap make (omega arith), passes)
here_or_onward make test d i x xs c (suc j, is, l, passes) = inr (j, is ∙ ap make (omega arith), omega (arith, l), passes)

pub numbered_on : {X : Type 0} (make : ℕ → Cause) (test : X → Bool) (d : X) (i : ℕ) (x : X) (xs : List X) (c : Cause) → test x ≡ false → Numbered make test d i (x ∷ xs) c
    → Numbered make test d (i + 1) xs c
numbered_on make test d i x xs c fails there = elim (here_or_onward make test d i x xs c there) [
  | inl here ↦ absurd (false≢true (sym fails ∙ here.1))
  | inr past ↦ past
]

pub joins_numbered : {X : Type 0} (make : ℕ → Cause) (test : X → Bool) (d : X) (i : ℕ) (x : X) (xs : List X) → ((a b : ℕ) → make a ≡ make b → a ≡ b) → test x ≡ true
    → Joins (λ c. c ≡ make i) (Numbered make test d (i + 1) xs) (Numbered make test d i (x ∷ xs))
joins_numbered make test d i x xs one passes = record {
  apart = λ c here there. let (j, is, l, _) = there in let e = one i (i + 1 + j) (sym here ∙ is) in omega (arith, e);
  split = λ c there. elim (here_or_onward make test d i x xs c there) [ inl here ↦ inl here.0 | inr past ↦ inr past ];
  left = λ c here. (0, here ∙ ap make (omega arith), omega arith, passes);
  right = λ c there. onward make test d i x xs c there;
}
