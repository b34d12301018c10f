-- What an answer says, whatever the type of its error. `lost` is the error that tells nothing of the input: want of memory.
use Rattle.std.specs.Prelude.{◌≡◌, ◌≢◌, Result, Ok, Err}

-- this value, unless memory ran out
abbrev pub IsUnless : {X E : Type 0} → E → Result X E → X → Type 0
IsUnless lost (Ok x) y = x ≡ y
IsUnless lost (Err e) y = e ≡ lost

-- this fault, unless memory ran out
abbrev pub FailsUnless : {X E : Type 0} → E → Result X E → E → Type 0
FailsUnless lost (Ok x) fault = ⊥
FailsUnless lost (Err e) fault = e ≢ lost → e ≡ fault

-- What a function returned, seen by view, is this answer, unless memory ran out.
abbrev pub Gives : {X Y E : Type 0} → E → (X → Y) → Result X E → Result Y E → Type 0
Gives lost view (Ok x) answer = answer ≡ Ok (view x)
Gives lost view (Err e) answer = e ≢ lost → answer ≡ Err e

-- The same of a function that takes no memory.
abbrev pub Tells : {X Y E : Type 0} → (X → Y) → Result X E → Result Y E → Type 0
Tells view (Ok x) answer = answer ≡ Ok (view x)
Tells view (Err e) answer = answer ≡ Err e

-- one step and then the next, up to the first fault
infixl 10 ◌>>=◌
abbrev pub ◌>>=◌ : {A B E : Type 0} → Result A E → (A → Result B E) → Result B E
(Ok x) >>= f = f x
(Err e) >>= f = Err e
