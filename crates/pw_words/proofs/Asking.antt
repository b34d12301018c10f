-- What words ask for: one thing at most, of 1 to 64 files or 1 to 32 clusters, and which words ask for something.
use Rattle.std.proofs.Common.{◌≡◌, ◌∙◌, ◌↔◌, ◌⊎◌, ◌≤◌, ◌∷◌, [], inl, inr, ℕ, Bool, cond, true, false, refl, sym, ap, ap₂, subst, List}
use Rattle.std.proofs.Common.{codes, Some, true≢false}
use Rattle.std.specs.Prelude.{MatchResult, Result, if◌then◌else◌}
use Rattle.std.specs.Str.{bytes_eq}
use Rattle.std.proofs.lemmas.Result.{MatchResult-weaker}
use Rattle.clap.specs.Walk.{Row, Text, all_of}
use Rattle.clap.specs.Simple.{subcommand_of}
use Rattle.pw_words.specs.declared.command.Command.{Command}
use Rattle.pw_words.specs.declared.command.Review.{Review}
use Rattle.pw_words.specs.declared.command.Task.{Task}
use Rattle.pw_words.specs.declared.command.Task.TheVariants.{Show, ShowAsJson, Rewrite, Check, Lint}
use Rattle.pw_words.specs.declared.command.Way.{Way}
use Rattle.pw_words.specs.declared.command.WordsFault.{WordsFault}
use Rattle.pw_words.specs.declared.command.WordsFault.TheVariants.{Refused}
use Rattle.pw_words.specs.Command.{asked_of}
use Rattle.pw_words.specs.Stated.{Enters, IsRefused, IsTaken, is_used}
use Rattle.pw_words.specs.App.{line_app}
use Rattle.pw_words.specs.Words.{AreMiscounted, AreStated, AskFor, Asked, IsCommand, IsCount, IsLine, Say, SayReview, SayTask}
use Rattle.pw_words.specs.Words.{SayWay, command_name, is_plain, moved, task_name}
use Rattle.pw_words.specs.Words.Asked.{audit, cppc, drive, generate, on_blocks}
use Rattle.pw_words.specs.inner.Reading.{Reads, given}
use Rattle.pw_words.proofs.Bounds.{HasFew}
use Rattle.pw_words.proofs.Getters.{inside}
use Rattle.pw_words.proofs.Counts.{one_count}
use Rattle.pw_words.proofs.Generating.{generate_rows, generate_said}
use Rattle.pw_words.proofs.Lines.{AreToCount, generate_rows_at, line_stated, plain_line}
use Rattle.pw_words.proofs.Present.{audit_not_cppc, audit_not_generate, cppc_not_generate, drive_not_audit, drive_not_cppc}
use Rattle.pw_words.proofs.Present.{drive_not_generate, files_met, not_audit, not_cppc, not_drive, not_generate, rows_met, stated_of}
use Rattle.pw_words.proofs.Subcommands.{met}

-- ---- one thing

-- the task that is asked for by a subcommand, with its flag or without
abbrev task_by : Text → Bool → Task
task_by name json = if bytes_eq name (codes "rewrite") then Rewrite
    else (if bytes_eq name (codes "check") then Check
    else (if bytes_eq name (codes "lint") then Lint else (if json then ShowAsJson else Show)))

is_task : (task : Task) (rows : List Row) → SayTask rows task → task_by (task_name task) (is_used (codes "json") rows) ≡ task
is_task Show rows said = ap (task_by (codes "show")) said
is_task ShowAsJson rows said = ap (task_by (codes "show")) said
is_task Rewrite rows said = refl
is_task Check rows said = refl
is_task Lint rows said = refl

-- the way that is told by the flags
abbrev way_by : List Row → Way
way_by rows = record { serial = is_used (codes "serial") rows; step = is_used (codes "step") rows }

is_way : (way : Way) (rows : List Row) → SayWay rows way → way_by rows ≡ way
is_way way rows said = ap₂ (λ (x y : Bool). (let w : Way = record { serial = x; step = y } in w)) said.0 said.1

-- the review that is
abbrev review_by : List Row → Review
review_by rows = record { step = is_used (codes "step") rows; trace = is_used (codes "trace") rows; cppc = is_used (codes "cppc") rows }

is_review : (review : Review) (rows : List Row) → SayReview rows review → review_by rows ≡ review
is_review review rows said = rw (said.0, said.1, said.2) refl

one_said : (a b : Asked) (rows : List Row) → command_name a ≡ command_name b → Say rows a → Say rows b → a ≡ b
one_said (on_blocks s us) (on_blocks t vs) rows same p q =
    let task = sym (is_task s rows p.0) ∙ ap (λ n. task_by n (is_used (codes "json") rows)) same ∙ is_task t rows q.0 in
    ap₂ on_blocks task (inside us vs (sym p.1 ∙ q.1))
one_said (drive s x us) (drive t y vs) rows same p q =
    let way = sym (is_way s rows p.0) ∙ is_way t rows q.0 in
    let names = ap₂ (drive s) (inside x y (sym p.1 ∙ q.1)) (inside us vs (sym p.2 ∙ q.2)) in
    names ∙ ap (λ (w : Way). drive w y vs) way
one_said (audit a x z us) (audit b y w vs) rows same p q =
    let review = sym (is_review a rows p.0) ∙ is_review b rows q.0 in
    let names = ap₂ (audit a x) (inside z w (sym p.2 ∙ q.2)) (inside us vs (sym p.3 ∙ q.3)) in
    names ∙ ap₂ (λ (r : Review) (s : Text). audit r s w vs) review (inside x y (sym p.1 ∙ q.1))
one_said (cppc a x us) (cppc b y vs) rows same p q =
    let names = ap₂ (cppc a) (inside x y (sym p.1 ∙ q.1)) (inside us vs (sym p.2 ∙ q.2)) in
    names ∙ ap (λ (c : Bool). cppc c y vs) (sym p.0 ∙ q.0)
one_said (generate m) (generate n) rows same p q =
    ap generate (one_count q.0 m n (subst (λ (w : Text). IsCount w m) (inside p.0 q.0 (sym p.1 ∙ q.1)) p.2) q.2)
one_said (on_blocks s us) (drive t y vs) rows same p q = absurd (not_drive s same)
one_said (on_blocks s us) (audit b y w vs) rows same p q = absurd (not_audit s same)
one_said (on_blocks s us) (cppc b y vs) rows same p q = absurd (not_cppc s same)
one_said (on_blocks s us) (generate n) rows same p q = absurd (not_generate s same)
one_said (drive s x us) (on_blocks t vs) rows same p q = absurd (not_drive t (sym same))
one_said (drive s x us) (audit b y w vs) rows same p q = absurd (drive_not_audit same)
one_said (drive s x us) (cppc b y vs) rows same p q = absurd (drive_not_cppc same)
one_said (drive s x us) (generate n) rows same p q = absurd (drive_not_generate same)
one_said (audit a x z us) (on_blocks t vs) rows same p q = absurd (not_audit t (sym same))
one_said (audit a x z us) (drive t y vs) rows same p q = absurd (drive_not_audit (sym same))
one_said (audit a x z us) (cppc b y vs) rows same p q = absurd (audit_not_cppc same)
one_said (audit a x z us) (generate n) rows same p q = absurd (audit_not_generate same)
one_said (cppc a x us) (on_blocks t vs) rows same p q = absurd (not_cppc t (sym same))
one_said (cppc a x us) (drive t y vs) rows same p q = absurd (drive_not_cppc (sym same))
one_said (cppc a x us) (audit b y w vs) rows same p q = absurd (audit_not_cppc (sym same))
one_said (cppc a x us) (generate n) rows same p q = absurd (cppc_not_generate same)
one_said (generate m) (on_blocks t vs) rows same p q = absurd (not_generate t (sym same))
one_said (generate m) (drive t y vs) rows same p q = absurd (drive_not_generate (sym same))
one_said (generate m) (audit b y w vs) rows same p q = absurd (audit_not_generate (sym same))
one_said (generate m) (cppc b y vs) rows same p q = absurd (cppc_not_generate (sym same))

module _ (words : List Text) where
  name_entered : {m n : Text} {p q : List Row} → Enters words m p → Enters words n q → m ≡ n
  name_entered {m} {n} {p} {q} e f = ap (λ (x : Text × List Row). x.0) (inside (m, p) (n, q) (sym e ∙ f))

  rows_entered : {m n : Text} {p q : List Row} → Enters words m p → Enters words n q → p ≡ q
  rows_entered {m} {n} {p} {q} e f = ap (λ (x : Text × List Row). x.1) (inside (m, p) (n, q) (sym e ∙ f))

one_stated : (words : List Text) (a b : Asked) → AreStated words a → AreStated words b → a ≡ b
one_stated words a b p q =
    one_said a b q.rows (name_entered words p.command q.command)
    (subst (λ (rows : List Row). Say rows a) (rows_entered words p.command q.command) p.said) q.said

-- words of which `clap` states what they ask for tell a number of clusters, if they are those of `generate`
pub not_miscounted : (words : List Text) (asked : Asked) → AreStated words asked → AreMiscounted words → ⊥
not_miscounted words asked p m =
    go asked (name_entered words p.command m.command)
    (subst (λ (rows : List Row). Say rows asked) (rows_entered words p.command m.command) p.said)
  where
    go : (a : Asked) → command_name a ≡ codes "generate" → Say m.rows a → ⊥
    go (on_blocks task files) same said = not_generate task same
    go (drive way script files) same said = drive_not_generate same
    go (audit review script history files) same said = audit_not_generate same
    go (cppc serial script files) same said = cppc_not_generate same
    go (generate count) same said = m.unsaid count said

-- ---- plain words and others

-- by whether the words are plain
by_plainness : {A : Type 0} (words : List Text) → (is_plain words ≡ true → A) → (is_plain words ≡ false → A) → A
by_plainness {A} words plain other = go (is_plain words) refl
  where
    go : (b : Bool) → is_plain words ≡ b → A
    go true e = plain e
    go false e = other e

pub plain_asks : (words : List Text) (asked : Asked) → is_plain words ≡ true → IsLine (moved words) asked → AskFor words asked
plain_asks words asked plain line = record { plain = λ e. line; other = λ e. absurd (true≢false (sym plain ∙ e)) }

other_asks : (words : List Text) (asked : Asked) → is_plain words ≡ false → AreStated words asked → AskFor words asked
other_asks words asked other stated = record { plain = λ e. absurd (true≢false (sym e ∙ other)); other = λ e. stated }

pub one_asked : (words : List Text) (a b : Asked) → AskFor words a → AskFor words b → a ≡ b
one_asked words a b p q = by_plainness words
    (λ e. one_stated (moved words) a b (line_stated (moved words) a (p.plain e)) (line_stated (moved words) b (q.plain e)))
    (λ e. one_stated words a b (p.other e) (q.other e))

-- the files of what the matches say
few_files : (words : List Text) (blocks : List Text) (asked : Asked) (h : AreStated words asked)
    → (command_name asked ≡ codes "generate" → ⊥) → all_of (codes "blocks") h.rows ≡ Some blocks → HasFew blocks
few_files words blocks asked h other said =
    let m = met words h.taken in
    let rows : rows_met m ≡ h.rows = rows_entered words m.command h.command in
    let files = files_met m (λ e. other (name_entered words h.command m.command ∙ e)) in
    subst HasFew (inside files.0 blocks (sym files.1 ∙ ap (all_of (codes "blocks")) rows ∙ said)) files.2

pub few_asked : (words : List Text) (task : Task) (blocks : List Text) → AskFor words (on_blocks task blocks) → HasFew blocks
few_asked words task blocks p = by_plainness words (λ e. ((p.plain e).1.some, (p.plain e).1.few))
    (λ e. (let h = p.other e in few_files words blocks (on_blocks task blocks) h (not_generate task) h.said.1))

pub few_driven : (words : List Text) (way : Way) (script : Text) (blocks : List Text) → AskFor words (drive way script blocks) → HasFew blocks
few_driven words way script blocks p = by_plainness words (λ e. ((p.plain e).2.some, (p.plain e).2.few))
    (λ e. (let h = p.other e in few_files words blocks (drive way script blocks) h drive_not_generate h.said.2))

pub few_audited : (words : List Text) (review : Review) (script history : Text) (blocks : List Text)
    → AskFor words (audit review script history blocks) → HasFew blocks
few_audited words review script history blocks p = by_plainness words (λ e. ((p.plain e).3.some, (p.plain e).3.few))
    (λ e. (let h = p.other e in few_files words blocks (audit review script history blocks) h audit_not_generate h.said.3))

pub few_performed : (words : List Text) (serial : Bool) (script : Text) (blocks : List Text)
    → AskFor words (cppc serial script blocks) → HasFew blocks
few_performed words serial script blocks p = by_plainness words (λ e. ((p.plain e).2.some, (p.plain e).2.few))
    (λ e. (let h = p.other e in few_files words blocks (cppc serial script blocks) h cppc_not_generate h.said.2))

-- the number of clusters
pub few_counted : (words : List Text) (count : ℕ) → AskFor words (generate count) → (1 ≤ count) × (count ≤ 32)
few_counted words count p = by_plainness words (λ e. ((p.plain e).2.some, (p.plain e).2.few))
    (λ e. (let h = p.other e in (h.said.2.some, h.said.2.few)))

pub taken_other : (words : List Text) → is_plain words ≡ false → IsCommand words ↔ (IsTaken words × (AreMiscounted words → ⊥))
taken_other words other = (
  (λ c. (let s = c.1.other other in (s.taken, not_miscounted words c.0 s))),
  (λ taken. elim (stated_of words taken.0) [
    | inl s ↦ (s.0, other_asks words s.0 other s.1)
    | inr m ↦ absurd (taken.1 m)
  ]),
)

-- ---- reading

-- what `clap` states of `generate` and a word is a line
counted_line : (words : List Text) (asked : Asked) → AreToCount words → AreStated words asked → IsLine words asked
counted_line words asked are stated =
    go asked (name_entered words stated.command entered)
    (subst (λ (rows : List Row). Say rows asked) (rows_entered words stated.command entered) stated.said)
  where
    entered : Enters words (codes "generate") (generate_rows are.0)
    entered = ap (subcommand_of line_app) are.1 ∙ generate_rows_at (are.0 ∷ [])

    go : (a : Asked) → command_name a ≡ codes "generate" → Say (generate_rows are.0) a → IsLine words a
    go (on_blocks task files) same said = absurd (not_generate task same)
    go (drive way script files) same said = absurd (drive_not_generate same)
    go (audit review script history files) same said = absurd (audit_not_generate same)
    go (cppc serial script files) same said = absurd (cppc_not_generate same)
    go (generate count) same said =
        let word = inside said.0 are.0 (sym said.1 ∙ generate_said are.0 are.2) in
        (are.0, are.1, subst (λ (w : Text). IsCount w count) word said.2)

-- what `clap` states of plain words whose flags were moved is a line
stated_line : (words : List Text) (asked : Asked) → is_plain words ≡ true → AreStated (moved words) asked → IsLine (moved words) asked
stated_line words asked plain stated = elim (plain_line words plain stated.taken) [
  | inl line ↦
      subst (IsLine (moved words)) (one_stated (moved words) line.0 asked (line_stated (moved words) line.0 line.1) stated) line.1
  | inr are ↦ counted_line (moved words) asked are stated
]

-- words that are refused are stated to ask for nothing
none_stated : (words : List Text) (asked : Asked) → IsRefused words ⊎ AreMiscounted words → AreStated words asked → ⊥
none_stated words asked (inl refused) stated = refused.untaken stated.taken
none_stated words asked (inr m) stated = not_miscounted words asked stated m

as_plain : (words : List Text) (r : Result Command WordsFault) → is_plain words ≡ true → Reads (given words) r → Reads (moved words) r
as_plain words r plain h = subst (λ (w : List Text). Reads w r) (ap (λ b. cond b (moved words) words) plain) h

as_other : (words : List Text) (r : Result Command WordsFault) → is_plain words ≡ false → Reads (given words) r → Reads words r
as_other words r other h = subst (λ (w : List Text). Reads w r) (ap (λ b. cond b (moved words) words) other) h

abbrev ReadsWords : List Text → Result Command WordsFault → Type 0
ReadsWords words r = MatchResult r (λ c. AskFor words (asked_of c)) (λ e. e ≡ Refused → IsCommand words → ⊥)

pub reads : (words : List Text) (r : Result Command WordsFault) → Reads (given words) r → ReadsWords words r
reads words r h = by_plainness words
    (λ plain. MatchResult-weaker r (as_plain words r plain h)
    (λ c stated. plain_asks words (asked_of c) plain (stated_line words (asked_of c) plain stated))
    (λ e refused is asks. none_stated (moved words) asks.0 (refused is) (line_stated (moved words) asks.0 (asks.1.plain plain))))
    (λ other. MatchResult-weaker r (as_other words r other h)
    (λ c stated. other_asks words (asked_of c) other stated)
    (λ e refused is asks. none_stated words asks.0 (refused is) (asks.1.other other)))

pub taken_or_refused : (words : List Text) (r : Result Command WordsFault) → Reads (given words) r → is_plain words ≡ false
    → MatchResult r (λ _. IsTaken words × (AreMiscounted words → ⊥)) (λ e. e ≡ Refused → IsRefused words ⊎ AreMiscounted words)
taken_or_refused words r h other = MatchResult-weaker r (as_other words r other h)
    (λ c stated. (stated.taken, not_miscounted words (asked_of c) stated)) (λ e refused. refused)
