-- The text of a summary in its parts.
use Rattle.std.proofs.Common.{◌≡◌, ◌∙◌, ℕ, Bool, true, false, cond, List, [], ◌∷◌, ◌++◌, map, filter, length, refl, ap, sym, append_assoc, codes, decimal}
use Rattle.std.specs.List.{flat_map, range_with_len}
use Rattle.std.proofs.lemmas.List.{append-nil}
use Rattle.std.proofs.lemmas.List.Folds.{flat_map-map}
use Rattle.std.proofs.lemmas.Grind.{flat_map-append}
use Rattle.pw_text.specs.Lines.{text_of, with_feed}
use Rattle.pw_text.proofs.Joined.{join-flat_map}
use Rattle.pw_plan.specs.declared.domain.DomainKind.TheVariants.{Perf}
use Rattle.pw_plan.specs.declared.plan.Plan.{Plan}
use Rattle.pw_plan.specs.Covering.{same_kind}
use Rattle.pw_plan.specs.Places.{domain_at}
use Rattle.pw_model.specs.declared.entry.HistoryEntry.{HistoryEntry}
use Rattle.pw_model.specs.declared.state.State.{State}
use Rattle.pw_model.specs.Containers.{container_vote}
use Rattle.pw_model.specs.History.{replay, replies}
use Rattle.pw_generate.specs.Summary.{container_states, labelled, perf_places, standing_of, standings, summary_text}
use Rattle.pw_generate.specs.inner.Counting.{counted, none, reply_lines, size_lines}
use Rattle.pw_generate.specs.inner.Ending.{end_lines, standings_behind, states_behind}
use Rattle.pw_generate.proofs.Counted.{replies_are}

-- # Numbers

abbrev pub number_line : List ℕ → ℕ → List ℕ
number_line label n = label ++ (decimal n ++ (10 ∷ []))

pub sizes_text : (cpus lines : ℕ)
    → number_line (codes "processors ") cpus ++ number_line (codes "lines ") lines ≡ text_of (size_lines cpus lines)
sizes_text cpus lines =
    ap (λ (l : List ℕ). number_line (codes "processors ") cpus ++ l) (sym (append-nil (number_line (codes "lines ") lines)))

pub counts_text : (a b c d : ℕ)
    → number_line (codes "entered ") a
    ++ (number_line (codes "running ") b ++ (number_line (codes "stands ") c ++ number_line (codes "refused ") d))
    ≡ text_of (reply_lines (record { entered = a; running = b; stands = c; refused = d }))
counts_text a b c d =
    ap (λ (l : List ℕ). number_line (codes "entered ") a ++ (number_line (codes "running ") b ++ (number_line (codes "stands ") c ++ l)))
    (sym (append-nil (number_line (codes "refused ") d)))

-- # Where all stand

abbrev behind : ℕ → List ℕ
behind n = 32 ∷ decimal n

line_is : (name : List ℕ) (ns : List ℕ) → with_feed (labelled name ns) ≡ name ++ (flat_map behind ns ++ (10 ∷ []))
line_is name ns =
    ap with_feed (join-flat_map 32 name (map decimal ns)
    ∙ ap (λ (l : List ℕ). name ++ l) (flat_map-map (λ (y : List ℕ). 32 ∷ y) decimal ns))
    ∙ append_assoc name (flat_map behind ns) (10 ∷ [])

filtered : (t : ℕ → Bool) (f : ℕ → List ℕ) (xs : List ℕ) → flat_map f (filter t xs) ≡ flat_map (λ x. cond (t x) (f x) []) xs
filtered t f [] = refl
filtered t f (x ∷ xs) = step (t x) (filtered t f xs)
  where
    step : (b : Bool) → flat_map f (filter t xs) ≡ flat_map (λ x. cond (t x) (f x) []) xs
        → flat_map f (cond b (x ∷ filter t xs) (filter t xs)) ≡ cond b (f x) [] ++ flat_map (λ x. cond (t x) (f x) []) xs
    step true later = ap (λ (l : List ℕ). f x ++ l) later
    step false later = later

states_are : (P : Plan) (S : State) → flat_map behind (container_states P S) ≡ states_behind P S
states_are P S = flat_map-map behind (λ n. (container_vote P S n).state) (range_with_len 0 (length P.containers))

standings_are : (P : Plan) (S : State) → flat_map behind (standings P S) ≡ standings_behind P S
standings_are P S =
    flat_map-map behind (standing_of P S) (perf_places P)
    ∙ filtered (λ d. same_kind (domain_at P d).kind Perf) (λ d. behind (standing_of P S d)) (range_with_len 0 (length P.domains))

pub ends_text : (P : Plan) (S : State)
    → (codes "containers" ++ (states_behind P S ++ (10 ∷ []))) ++ (codes "standing" ++ (standings_behind P S ++ (10 ∷ [])))
    ≡ text_of (end_lines P S)
ends_text P S =
    let first = line_is (codes "containers") (container_states P S)
    ∙ ap (λ (l : List ℕ). codes "containers" ++ (l ++ (10 ∷ []))) (states_are P S) in
    let second = line_is (codes "standing") (standings P S)
    ∙ ap (λ (l : List ℕ). codes "standing" ++ (l ++ (10 ∷ []))) (standings_are P S) in
    ap (λ (l : List ℕ). l ++ (codes "standing" ++ (standings_behind P S ++ (10 ∷ [])))) (sym first)
    ∙ ap (λ (l : List ℕ). with_feed (labelled (codes "containers") (container_states P S)) ++ l)
    (sym second ∙ sym (append-nil (with_feed (labelled (codes "standing") (standings P S)))))

-- # The whole

pub whole_text : (P : Plan) (es : List HistoryEntry)
    → text_of (size_lines (length P.cpus) (length es))
    ++ (text_of (reply_lines (counted none (replies P es))) ++ (text_of (end_lines P (replay P es)) ++ []))
    ≡ summary_text P es
unfolding summary_text
whole_text P es =
    let sizes = size_lines (length P.cpus) (length es) in
    let counts = reply_lines (counted none (replies P es)) in
    let ends = end_lines P (replay P es) in
    ap (λ (l : List ℕ). text_of sizes ++ (text_of counts ++ l)) (append-nil (text_of ends))
    ∙ ap (λ (l : List ℕ). text_of sizes ++ l) (sym (flat_map-append with_feed counts ends))
    ∙ sym (flat_map-append with_feed sizes (counts ++ ends))
    ∙ ap (λ (ls : List (List ℕ)). text_of (sizes ++ (ls ++ ends))) (replies_are (replies P es))
