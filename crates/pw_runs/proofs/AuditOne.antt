-- An audit of what files hold has one text, or is refused in one way.
use Rattle.std.proofs.Common.{◌≡◌, ◌≢◌, ℕ, Bool, true, List, ◌∷◌, length, Option, Some, Result, Err, inl, inr, ◌⊎◌, refl, sym, ap, subst, ◌∙◌, arith}
use Rattle.std.specs.Prelude.{Contains, suc, zero}
use Rattle.std.proofs.lemmas.Bool.{false≢true}
use Rattle.pw_base.specs.Seen.{FilesSeen}
use Rattle.pw_history.specs.Wording.{Wording}
use Rattle.pw_history.specs.Telling.{TextsTell}
use Rattle.pw_history.specs.Wholes.{pieces_of}
use Rattle.pw_plan.specs.declared.plan.Plan.{Plan as plan}
use Rattle.pw_script.specs.declared.script.Line.{Line as line}
use Rattle.pw_script.specs.Asking.{IsNarrowRequest}
use Rattle.pw_script.specs.HistoryText.{power_words}
use Rattle.pw_script.specs.Reading.{requests_of}
use Rattle.pw_script.specs.Telling.{IsNarrow}
use Rattle.pw_script.proofs.Told.{power_laws}
use Rattle.pw_audit.specs.declared.answer.AuditFault.{AuditFault}
use Rattle.pw_audit.specs.declared.answer.AuditFault.TheVariants.{Memory}
use Rattle.pw_audit.specs.declared.answer.TheConstants.{MOST_BYTES}
use Rattle.pw_audit.specs.declared.form.Form.{Form}
use Rattle.pw_audit.specs.Judging.{Told}
use Rattle.pw_audit.proofs.Verdicts.{told_long, told_unfinished, told_whole, told_wrong}
use Rattle.pw_load.specs.Seen.{NoneFailed}
use Rattle.pw_load.proofs.Completeness.{IsOne}
use Rattle.pw_runs.specs.Runs.{AreGiven, IsRefusalOn}
use Rattle.pw_runs.proofs.One as drives
use Rattle.pw_runs.specs.Histories.{history_line, lawful_line}
use Rattle.pw_runs.specs.Texts.{HoldNoText, HoldText, IsNoText, IsText}
use Rattle.pw_runs.specs.Texts.IsNoText.{too_long, wrong, unfinished}
use Rattle.pw_runs.specs.Reviewing.{IsLawfulOn, IsRefusalFor, IsUnlawfulOn}
use Rattle.pw_runs.specs.Reviewing.IsRefusalFor.{ungiven, unlawful}
use Rattle.pw_runs.specs.Reviews as power
use Rattle.pw_runs.specs.Reviews.{reviewing}
use Rattle.pw_runs.proofs.Counted.{same_count}
use Rattle.pw_runs.proofs.Paths.{planned_segments}

module _ {Plan Request Reply Entry State : Type 0} (W : Wording Plan Request Reply Entry State) where
  -- # Bytes

  -- an audit that answers a fault
  abbrev Failed : AuditFault → Result (Option ℕ × List Entry) AuditFault
  Failed fault = Err fault

  module _ (form : Form) (plan : Plan) (asked : List Request) (bytes : List ℕ) where
    fault_told : (f : AuditFault) → IsNoText W form plan asked bytes f → Told W form plan asked bytes (Err f)
    fault_told _ (too_long more) = (refl, more)
    fault_told _ (wrong short is) = (short, is)
    fault_told _ (unfinished short is) = (short, refl, is)

    fault_own : (f : AuditFault) → IsNoText W form plan asked bytes f → Failed f ≢ Failed Memory
    fault_own _ (too_long more) = λ e. absurd (cc)
    fault_own _ (wrong short is) = λ e. absurd (cc)
    fault_own _ (unfinished short is) = λ e. absurd (cc)

    one_fault : (f g : AuditFault) → IsNoText W form plan asked bytes f → IsNoText W form plan asked bytes g → f ≡ g
    one_fault f _ p (too_long more) = let e = (told_long W form plan asked bytes MOST_BYTES (Failed f) (fault_told f p) (fault_own f p)).1 (refl, more) in cc
    one_fault f _ p (wrong {line = k} short is) = let e = (told_wrong W form plan asked bytes k (Failed f) (fault_told f p) (fault_own f p)).1 (short, is) in cc
    one_fault f _ p (unfinished short is) =
        let e = (told_unfinished W form plan asked bytes (length (pieces_of bytes)) (Failed f) (fault_told f p) (fault_own f p)).1 (short, refl, is) in
        cc

    not_both : (n : ℕ) (f : AuditFault) → IsText W form plan asked bytes n → IsNoText W form plan asked bytes f → ⊥
    not_both n f h p = false≢true ((told_whole W form plan asked bytes (Failed f) (fault_told f p) (fault_own f p)).1 (h.short, h.whole))

    one_count : {IsNarrow : Entry → Type 0} {IsNarrowRequest : Request → Type 0} → TextsTell W plan IsNarrow IsNarrowRequest → (m n : ℕ)
        → IsText W form plan asked bytes m → IsText W form plan asked bytes n → m ≡ n
    one_count tell m n p q = p.count ∙ same_count tell form asked bytes p.whole q.whole ∙ sym q.count

held_same : {held : Option (List ℕ)} {a b : List ℕ} → held ≡ Some a → held ≡ Some b → a ≡ b
held_same d e = cc

-- # Files that tell

module _ {Plan Request Reply Entry State : Type 0} (W : Wording Plan Request Reply Entry State) {Line : Type 0} (asks : List Line → List Request) (Given : FilesSeen → Plan → List Line → Type 0)
    (Refused : FilesSeen → ℕ → List ℕ → Type 0) {IsNarrow : Entry → Type 0} {IsNarrowRequest : Request → Type 0} (form : Form)
    (history : List ℕ) (files : FilesSeen) (tells : files.told ≡ true) (one_given : (P Q : Plan) (ls ms : List Line) → Given files P ls → Given files Q ms → (P ≡ Q) × (ls ≡ ms))
    (one_ungiven : (s t : ℕ) (a b : List ℕ) → Refused files s a → Refused files t b → (s ≡ t) × (a ≡ b))
    (given_so : (P : Plan) (ls : List Line) (s : ℕ) (a : List ℕ) → Given files P ls → Refused files s a → ⊥)
    (laws : (P : Plan) (ls : List Line) → Given files P ls → TextsTell W P IsNarrow IsNarrowRequest) where
  -- what is held by one plan and script is so by the other
  over : (P Q : Plan) (ls ms : List Line) → Given files P ls → Given files Q ms → (T : Plan → List Request → Type 0) → T P (asks ls) → T Q (asks ms)
  over P Q ls ms p q T t =
      let same = one_given P Q ls ms p q in
      subst (λ (l : List Line). T Q (asks l)) same.1 (subst (λ (R : Plan). T R (asks ls)) same.0 t)

  one_entries : (P : Plan) (ls : List Line) → Given files P ls → (m n : ℕ) → HoldText W form files history P (asks ls) m
      → HoldText W form files history P (asks ls) n → m ≡ n
  one_entries P ls given m n p q =
      let same = held_same (p.held tells) (q.held tells) in
      one_count W form P (asks ls) q.bytes (laws P ls given) m n (subst (λ (b : List ℕ). IsText W form P (asks ls) b m) same p.is) q.is

  one_why : (P : Plan) (asked : List Request) (f g : AuditFault) → HoldNoText W form files history P asked f → HoldNoText W form files history P asked g → f ≡ g
  one_why P asked f g p q =
      let same = held_same (p.held tells) (q.held tells) in
      one_fault W form P asked q.bytes f g (subst (λ (b : List ℕ). IsNoText W form P asked b f) same p.fails) q.fails

  never_both : (P : Plan) (asked : List Request) (n : ℕ) (f : AuditFault) → HoldText W form files history P asked n → HoldNoText W form files history P asked f → ⊥
  never_both P asked n f p q =
      let same = held_same (p.held tells) (q.held tells) in
      not_both W form P asked q.bytes n f (subst (λ (b : List ℕ). IsText W form P asked b n) same p.is) q.fails

  pub one_text : (a b : List ℕ) → IsLawfulOn W asks Given form files history a → IsLawfulOn W asks Given form files history b → a ≡ b
  one_text a b p q =
      let held = over p.plan q.plan p.lines q.lines p.given q.given (λ R asked. HoldText W form files history R asked p.entries) p.held in
      p.says ∙ ap lawful_line (one_entries q.plan q.lines q.given p.entries q.entries held q.held) ∙ sym q.says

  one_unlawful : (s t : ℕ) (a b : List ℕ) → IsUnlawfulOn W asks Given form files history s a → IsUnlawfulOn W asks Given form files history t b → (s ≡ t) × (a ≡ b)
  one_unlawful s t a b p q =
      let held = over p.plan q.plan p.lines q.lines p.given q.given (λ R asked. HoldNoText W form files history R asked p.fault) p.held in
      let faults = one_why q.plan (asks q.lines) p.fault q.fault held q.held in
      (p.is ∙ sym q.is, p.says ∙ ap history_line faults ∙ sym q.says)

  pub one_refusal : (s t : ℕ) (a b : List ℕ) → IsRefusalFor W asks Given Refused form files history s a → IsRefusalFor W asks Given Refused form files history t b → (s ≡ t) × (a ≡ b)
  one_refusal s t a b (ungiven p) (ungiven q) = one_ungiven s t a b p q
  one_refusal s t a b (ungiven p) (unlawful q) = absurd (given_so q.plan q.lines s a q.given p)
  one_refusal s t a b (unlawful p) (ungiven q) = absurd (given_so p.plan p.lines t b p.given q)
  one_refusal s t a b (unlawful p) (unlawful q) = one_unlawful s t a b p q

  pub apart : (status : ℕ) (text line : List ℕ) → IsLawfulOn W asks Given form files history text → IsRefusalFor W asks Given Refused form files history status line → ⊥
  apart status text line made (ungiven r) = given_so made.plan made.lines status line made.given r
  apart status text line made (unlawful r) =
      let held = over made.plan r.plan made.lines r.lines made.given r.given (λ R asked. HoldText W form files history R asked made.entries) made.held in
      never_both r.plan (asks r.lines) made.entries r.fault held r.held

-- An audit of what files hold has one text, or is refused in one way, and never both.
pub reviewing_is_one : (form : Form) (step : Bool) (script history : List ℕ) (names : List (List ℕ)) (before after : FilesSeen) → before.told ≡ true
    → IsOne (reviewing form step script history names before after)
reviewing_is_one form step script history names before after tells = record {
  texts = one_text power_words requests_of given refuse form history before tells one once so laws;
  refusals = one_refusal power_words requests_of given refuse form history before tells one once so laws;
  apart = apart power_words requests_of given refuse form history before tells one once so laws;
}
  where
    given : FilesSeen → plan → List line → Type 0
    given files = AreGiven files step script names

    refuse : FilesSeen → ℕ → List ℕ → Type 0
    refuse files = IsRefusalOn files step script names

    one : (P Q : plan) (ls ms : List line) → AreGiven before step script names P ls → AreGiven before step script names Q ms → (P ≡ Q) × (ls ≡ ms)
    one = drives.one_given step script names before tells

    once : (s t : ℕ) (a b : List ℕ) → IsRefusalOn before step script names s a → IsRefusalOn before step script names t b → (s ≡ t) × (a ≡ b)
    once = (drives.drive_is_one step script names before before tells).refusals

    so : (P : plan) (ls : List line) (s : ℕ) (a : List ℕ) → AreGiven before step script names P ls → IsRefusalOn before step script names s a → ⊥
    so P ls s a is r = drives.given_not_refused step script names before tells P ls is s a r

    laws : (P : plan) (ls : List line) → AreGiven before step script names P ls → TextsTell power_words P IsNarrow IsNarrowRequest
    laws P ls is = power_laws P (planned_segments before names P tells is.planned)

-- # Files of which no read failed

-- an element stands in front of others, or behind one
pub Contains-one : {X : Type 0} (x : X) (xs : List X) → Contains (x ∷ xs) x
Contains-one x xs = (0, omega arith, refl)

pub Contains-behind : {X : Type 0} (y : X) (xs : List X) (x : X) → Contains xs x → Contains (y ∷ xs) x
Contains-behind y xs x (k, lt, is) = (suc k, omega (arith, lt), is)

pub behind_first : {X : Type 0} (x y z : X) (xs : List X) → Contains (x ∷ xs) z → Contains (x ∷ y ∷ xs) z
behind_first x y z xs (zero, lt, is) = (0, omega arith, is)
behind_first x y z xs (suc k, lt, is) = (suc (suc k), omega (arith, lt), is)

-- No file is unread where no read of the script, of the history or of a block failed.
pub never_read_fault : (form : Form) (step : Bool) (script history : List ℕ) (names : List (List ℕ)) (before after : FilesSeen) → NoneFailed (script ∷ history ∷ names) before after
    → (reviewing form step script history names before after).read_fault → ⊥
never_read_fault form step script history names before after none (inl u) =
    drives.never_read_fault step script names before after (λ name within. none name (behind_first script history name names within)) (inl u)
never_read_fault form step script history names before after none (inr (inl u)) =
    drives.never_read_fault step script names before after (λ name within. none name (behind_first script history name names within)) (inr u)
never_read_fault form step script history names before after none (inr (inr u)) = none history (Contains-behind script (history ∷ names) history (Contains-one history names)) u.rose

-- # The status of what is refused

-- A refusal has status 1 where the blocks are refused, 7 where the script is, and 8 where the history is.
pub refusal_is_1_7_or_8 : (form : Form) (step : Bool) (script history : List ℕ) (names : List (List ℕ)) (files : FilesSeen) (status : ℕ) (line : List ℕ)
    → power.IsRefusalFor form files step script history names status line → (status ≡ 1) ⊎ (status ≡ 7) ⊎ (status ≡ 8)
refusal_is_1_7_or_8 form step script history names files status line (ungiven r) =
    elim (drives.refusal_is_1_or_7 step script names files status line r) [
      | inl one ↦ inl one
      | inr seven ↦ inr (inl seven)
    ]
refusal_is_1_7_or_8 form step script history names files status line (unlawful r) = inr (inr r.is)
