-- The texts of a plan's paths.
use Rattle.std.specs.Prelude.{◌≡◌, ℕ, List}
use Rattle.pw_text.specs.Paths.{text_at}
use Rattle.pw_history.specs.Wording.{Wording}

-- these are they, by the processors' numbers
abbrev pub ArePaths : {P Q A E S : Type 0} → Wording P Q A E S → P → List (List ℕ) → Type 0
ArePaths W plan texts = (p : ℕ) → text_at texts p ≡ W.path plan p
