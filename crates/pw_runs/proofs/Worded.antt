-- Lines of words, as they are put.
use Rattle.std.proofs.Common.{◌≡◌, ℕ, List, [], ◌∷◌, ◌++◌, codes, decimal, refl, sym, ap, append_assoc}
use Rattle.pw_text.specs.Lines.{line_of}
use Rattle.pw_text.specs.declared.script.LineWhy.{LineWhy}
use Rattle.pw_text.specs.declared.script.ScriptFault.TheVariants.{TooLong, Line}
use Rattle.pw_runs.specs.Runs.{register_line}
use Rattle.pw_runs.specs.Scripts.{script_line, why_word}

pub long_line : (bound : ℕ) → codes "script: longer than " ++ decimal bound ++ codes "\n" ≡ script_line (TooLong bound)
unfolding line_of
long_line bound = refl

pub bad_line : (number : ℕ) (why : LineWhy) → codes "script: line " ++ decimal number ++ (32 ∷ (why_word why ++ codes "\n")) ≡ script_line (Line number why)
unfolding line_of
bad_line number why = ap (λ (l : List ℕ). codes "script: line " ++ l) (sym (append_assoc (decimal number) (32 ∷ why_word why) (10 ∷ [])))

pub fault_line : (k : ℕ) → codes "register fault after " ++ decimal k ++ codes "\n" ≡ register_line k
unfolding line_of
fault_line k = refl
