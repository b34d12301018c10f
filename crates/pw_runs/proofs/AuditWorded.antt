-- Lines of words, as they are put.
use Rattle.std.proofs.Common.{◌≡◌, ℕ, List, [], ◌∷◌, ◌++◌, codes, decimal, refl, sym, ap, append_assoc}
use Rattle.pw_text.specs.Lines.{line_of}
use Rattle.pw_audit.specs.declared.answer.AuditFault.TheVariants.{TooLong, Wrong, Unfinished}
use Rattle.pw_runs.specs.Histories.{history_line, lawful_line}

pub count_line : (entries : ℕ) → codes "lawful entries " ++ decimal entries ++ codes "\n" ≡ lawful_line entries
unfolding line_of
count_line entries = refl

pub long_line : (bound : ℕ) → codes "history: longer than " ++ decimal bound ++ codes "\n" ≡ history_line (TooLong bound)
unfolding line_of
long_line bound = refl

pub wrong_line : (line : ℕ) → codes "history: line " ++ decimal line ++ codes "\n" ≡ history_line (Wrong line)
unfolding line_of
wrong_line line = refl

pub short_line : (lines : ℕ) → codes "history: ends after " ++ decimal lines ++ codes " lines\n" ≡ history_line (Unfinished lines)
unfolding line_of
short_line lines = ap (λ (l : List ℕ). codes "history: ends after " ++ l) (sym (append_assoc (decimal lines) (32 ∷ codes "lines") (10 ∷ [])))
