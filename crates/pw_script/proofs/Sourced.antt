-- Where an entry comes from.
use Rattle.std.proofs.Common.{◌≡◌, ◌∙◌, ◌++◌, ◌∷◌, ◌==◌, ℕ, suc, List, [], true, false, None, Option, Some, Result, Ok, Err, ap, ap₂}
use Rattle.std.proofs.Common.{append-nil, append_assoc, arith, drop, eq-eqb, get_or, length, length-append, ne_eqb, refl, subst, sym}
use Rattle.std.specs.List.{AllByRecursion}
use Rattle.acpi_values.specs.declared.idle.IdleTable.{IdleTable}
use Rattle.pw_text.specs.declared.script.LineWhy.{LineWhy}
use Rattle.pw_plan.specs.declared.domain.DomainKind.{DomainKind}
use Rattle.pw_plan.specs.declared.domain.DomainKind.TheVariants as kinds
use Rattle.pw_plan.specs.declared.parts.Scale.{Scale}
use Rattle.pw_plan.specs.declared.plan.Plan.{Plan}
use Rattle.pw_plan.specs.declared.request.Request.{Request}
use Rattle.pw_plan.specs.Parts.{scale_of}
use Rattle.pw_plan.specs.Places.{cpu_at}
use Rattle.pw_plan.specs.Requests.{cpu_of}
use Rattle.pw_model.specs.declared.entry.HistoryEntry.{HistoryEntry}
use Rattle.pw_model.specs.declared.state.ScaleKind.{ScaleKind}
use Rattle.pw_model.specs.declared.state.ScaleKind.TheVariants as scales
use Rattle.pw_model.specs.declared.state.State.{State}
use Rattle.pw_model.specs.States.{limit_of}
use Rattle.pw_model.specs.History.{IsEntry, replay, request_of}
use Rattle.pw_model.proofs.Staying.{request_cpu}
use Rattle.pw_notice.specs.Limits.{IsAnswer, own, own_limit}
use Rattle.pw_script.specs.declared.script.Line.{Line as line}
use Rattle.pw_script.specs.declared.wish.Wish.{Wish}
use Rattle.pw_script.specs.declared.wish.Wish.TheVariants.{Plain, Within, Notice}
use Rattle.pw_script.specs.Forms.{wish_in}
use Rattle.pw_script.specs.Lawful.{Lawful}
use Rattle.pw_script.specs.Reading.{AreLines, GivesLines, IsAsked, requests_of}
use Rattle.pw_script.specs.Sources.{ComesFrom, ComesTo, IsHandled}
use Rattle.pw_script.proofs.Lined.{entry_line}

module _ (P : Plan) (c : IdleTable → ℕ → ℕ → ℕ → Type 0) (m : ScaleKind → ℕ → ℕ → ℕ → ℕ → Type 0) where
  -- # The text of a line

  -- a text behind those that give these requests, which asks for q
  record Wished (first : List Request) (n : ℕ) (texts : List (List ℕ)) (before : List Request) (q : Request) : Type 0 where
    earlier : List (List ℕ)
    text : List ℕ
    later : List (List ℕ)
    stands : texts ≡ earlier ++ text ∷ later
    lines : List line
    gives : AreLines P c m first n earlier lines
    tells : requests_of lines ≡ before
    wish : Wish
    asks : wish_in P text ≡ Ok (Some wish)
    asked : IsAsked P c m (first ++ before) wish q

  wished : (first : List Request) (n : ℕ) (texts : List (List ℕ)) (lines : List line) (before later : List Request) (q : Request)
      → AreLines P c m first n texts lines → requests_of lines ≡ before ++ q ∷ later → Wished first n texts before q
  wished first n [] lines before later q h e =
      let none : 0 ≡ length (before ++ q ∷ later) = ap length (ap requests_of (sym h) ∙ e) in
      absurd (omega (arith, none, length-append before (q ∷ later)))
  wished first n (text ∷ texts) lines before later q h e = step (wish_in P text) refl before h e (λ b ls bs. wished b (suc n) texts ls bs later q)
    where
      step : (r : Result (Option Wish) LineWhy) → wish_in P text ≡ r → (before : List Request)
          → GivesLines P c m first n r (λ b l. AreLines P c m b (suc n) texts l) lines → requests_of lines ≡ before ++ q ∷ later
          → ((b : List Request) (ls : List line) (bs : List Request) → AreLines P c m b (suc n) texts ls → requests_of ls ≡ bs ++ q ∷ later → Wished b (suc n) texts bs q)
          → Wished first n (text ∷ texts) before q
      step (Err why) is before g e go = absurd g
      step (Ok None) is before g e go =
          let f = go first lines before g e in
          record {
            earlier = text ∷ f.earlier;
            text = f.text;
            later = f.later;
            stands = ap (λ (l : List (List ℕ)). text ∷ l) f.stands;
            lines = f.lines;
            gives = rw is f.gives;
            tells = f.tells;
            wish = f.wish;
            asks = f.asks;
            asked = f.asked;
          }
      step (Ok (Some w)) is [] g e go =
          let same : g.0 ≡ q = ap (λ (l : List Request). get_or l 0 q) (sym (ap requests_of g.3) ∙ e) in
          record {
            earlier = [];
            text = text;
            later = texts;
            stands = refl;
            lines = [];
            gives = refl;
            tells = refl;
            wish = w;
            asks = is;
            asked = subst (λ (b : List Request). IsAsked P c m b w q) (sym (append-nil first)) (subst (IsAsked P c m first w) same g.1);
          }
      step (Ok (Some w)) is (x ∷ before) g e go =
          let whole : g.0 ∷ requests_of g.2 ≡ x ∷ (before ++ q ∷ later) = sym (ap requests_of g.3) ∙ e in
          let same : g.0 ≡ x = ap (λ (l : List Request). get_or l 0 x) whole in
          let f = go (first ++ g.0 ∷ []) g.2 before g.4 (ap (drop 1) whole) in
          let behind : (first ++ g.0 ∷ []) ++ before ≡ first ++ x ∷ before = append_assoc first (g.0 ∷ []) before ∙ ap (λ (y : Request). first ++ y ∷ before) same in
          record {
            earlier = text ∷ f.earlier;
            text = f.text;
            later = f.later;
            stands = ap (λ (l : List (List ℕ)). text ∷ l) f.stands;
            lines = record { number = n; request = g.0 } ∷ f.lines;
            gives = rw is (g.0, g.1, f.lines, refl, f.gives);
            tells = ap₂ (λ (y : Request) (l : List Request). y ∷ l) same f.tells;
            wish = f.wish;
            asks = f.asks;
            asked = subst (λ (b : List Request). IsAsked P c m b f.wish q) behind f.asked;
          }

  -- # What its wish comes to

  module _ (S : State) (before : List Request) where
    handled : (answers : ℕ → ℕ → ℕ → ℕ → Type 0) (kind : DomainKind) (p value n : ℕ) → limit_of kind S p ≡ own_limit P kind p before
        → IsAnswer answers (scale_of kind (cpu_at P p)) (own_limit P kind p before) value n → IsHandled P answers S kind p value n
    handled answers kind p value n stands answer = record {
      answered = λ scale is. subst (λ (l : ℕ). answers (length scale.controls) l value n) (sym stands)
          (subst (λ (o : Option Scale). IsAnswer answers o (own_limit P kind p before) value n) is answer);
      passed_on = λ is. subst (λ (o : Option Scale). IsAnswer answers o (own_limit P kind p before) value n) is answer;
    }

    comes : (w : Wish) (q : Request) → ((kind : DomainKind) → limit_of kind S (cpu_of q) ≡ own_limit P kind (cpu_of q) before) → IsAsked P c m before w q → ComesTo P c m S w q
    comes (Plain r) q stands asked = asked
    comes (Within p t r) q stands asked = (
      asked.0,
      asked.1,
      (λ none. (let is : (asked.0 == 0) ≡ true = eq-eqb asked.0 0 none in rw is at asked.2)),
      (λ some. (let is : (asked.0 == 0) ≡ false = ne_eqb asked.0 0 (λ e. omega (arith, some, e)) in rw is at asked.2)),
    )
    comes (Notice p scales.Perf v) q stands asked =
        let mine = subst (λ (k : ℕ). limit_of kinds.Perf S k ≡ own_limit P kinds.Perf k before) (ap cpu_of asked.2) (stands kinds.Perf) in
        (asked.0, handled (m scales.Perf) kinds.Perf p v asked.0 mine asked.1, asked.2)
    comes (Notice p scales.Throttle v) q stands asked =
        let mine = subst (λ (k : ℕ). limit_of kinds.Throttle S k ≡ own_limit P kinds.Throttle k before) (ap cpu_of asked.2) (stands kinds.Throttle) in
        (asked.0, handled (m scales.Throttle) kinds.Throttle p v asked.0 mine asked.1, asked.2)

  -- # An entry

  the_entry : (es fs : List HistoryEntry) (e : HistoryEntry) → AllByRecursion (IsEntry P) (es ++ e ∷ fs) → IsEntry P e
  the_entry [] fs e h = h.0
  the_entry (x ∷ es) fs e h = the_entry es fs e h.1

  pub entry_from : (n : ℕ) (texts : List (List ℕ)) (lines : List line) (es fs : List HistoryEntry) (e : HistoryEntry) → AreLines P c m [] n texts lines
      → Lawful P (requests_of lines) None (es ++ e ∷ fs) → ComesFrom P c m n texts es e
  entry_from n texts lines es fs e are run =
      let lt = (the_entry es fs e run.legal.well_formed.entries).states.cpu in
      let own_line = entry_line P (requests_of lines) es fs e lt run in
      let f = wished [] n texts lines own_line.before own_line.later (request_of e) are own_line.is in
      record {
        earlier = f.earlier;
        text = f.text;
        later = f.later;
        stands = f.stands;
        lines = f.lines;
        gives = f.gives;
        made = own_line.made ∙ ap (own e.cpu) (sym f.tells);
        wish = f.wish;
        asks = f.asks;
        comes = comes (replay P es) own_line.before f.wish (request_of e)
            (λ kind. subst (λ (p : ℕ). limit_of kind (replay P es) p ≡ own_limit P kind p own_line.before) (sym (request_cpu e)) (own_line.limits kind)) f.asked;
      }
