-- Texts of lists, and all lines in their order.
use Rattle.std.proofs.Common.{◌≡◌, ◌∙◌, ◌≤◌, ◌+◌, ℕ, List, [], ◌∷◌, ◌++◌, drop, length, get_or, ap, sym, append_assoc, arith}
use Rattle.std.specs.List.{flat_map}
use Rattle.pw_plan.specs.declared.plan.Plan.{Plan}
use Rattle.acpi_build.specs.declared.note.Note.{Note}
use Rattle.pw_check.specs.Numbers.{numbered}
use Rattle.pw_check.specs.CheckText.{check_text, container_line, count_line, cpu_line, domain_line, group_line, note_line}

pub numbered_step : {X : Type 0} (text : ℕ → X → List ℕ) (k : ℕ) (xs : List X) (x : X) → 1 ≤ length xs → x ≡ get_or xs 0 x
    → text k x ++ numbered text (k + 1) (drop 1 xs) ≡ numbered text k xs
numbered_step text k [] x le is = absurd (omega arith)
numbered_step text k (y ∷ ys) x le is = ap (λ z. text k z ++ numbered text (k + 1) ys) is

in_order : (a b c d e f : List ℕ) → a ++ (b ++ (c ++ (d ++ (e ++ f)))) ≡ a ++ b ++ c ++ d ++ e ++ f
in_order a b c d e f =
    sym (append_assoc (a ++ b ++ c ++ d) e f ∙ append_assoc (a ++ b ++ c) d (e ++ f)
    ∙ append_assoc (a ++ b) c (d ++ (e ++ f)) ∙ append_assoc a b (c ++ (d ++ (e ++ f))))

pub whole_text : (P : Plan) (noted : List Note)
    → flat_map (container_line P.containers) P.containers ++ (flat_map (cpu_line P.containers) P.cpus
    ++ (numbered domain_line 0 P.domains ++ (numbered group_line 0 P.groups ++ (flat_map note_line noted ++ count_line (length noted))))) ≡ check_text P noted
unfolding check_text
whole_text P noted =
    in_order (flat_map (container_line P.containers) P.containers) (flat_map (cpu_line P.containers) P.cpus)
    (numbered domain_line 0 P.domains) (numbered group_line 0 P.groups) (flat_map note_line noted) (count_line (length noted))
