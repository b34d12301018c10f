-- The line of an entry.
use Rattle.std.proofs.Common.{◌≡◌, ◌∙◌, ◌++◌, ◌∷◌, ◌<◌, Bool, true, false, cond, List, [], None, ap, append_assoc, drop, eq-eqb, get_or, length, refl, sym, arith}
use Rattle.std.specs.Prelude.{filter}
use Rattle.std.proofs.lemmas.List.{map-append}
use Rattle.std.proofs.lemmas.List.Elements.{filter-append}
use Rattle.pw_plan.specs.declared.plan.Plan.{Plan}
use Rattle.pw_plan.specs.declared.request.Request.{Request}
use Rattle.pw_plan.specs.Requests.{cpu_of}
use Rattle.pw_kind.proofs.Joining.{last_before}
use Rattle.pw_model.specs.declared.entry.HistoryEntry.{HistoryEntry}
use Rattle.pw_model.specs.History.{power, request_of}
use Rattle.pw_model.proofs.Staying.{request_cpu}
use Rattle.pw_notice.specs.Limits.{is_of, limit_after, own, requests}
use Rattle.pw_notice.proofs.OwnLimits.{histories_own}
use Rattle.pw_script.specs.Lawful.{HasLine, Lawful}

-- q stands in a list behind elements of which the first ones pass the test
record Splits (test : Request → Bool) (all passed : List Request) (q : Request) : Type 0 where
  before : List Request
  later : List Request
  is : all ≡ before ++ q ∷ later
  passing : filter test before ≡ passed

split_at : (test : Request → Bool) (all passed : List Request) (q : Request) (others : List Request) → filter test all ≡ passed ++ q ∷ others → Splits test all passed q
split_at test [] [] q others e = absurd (omega (arith, ap length e))
split_at test [] (a ∷ passed) q others e = absurd (omega (arith, ap length e))
split_at test (x ∷ all) passed q others e = step (test x) refl passed e (λ first h. split_at test all first q others h)
  where
    step : (b : Bool) → test x ≡ b → (first : List Request) → cond b (x ∷ filter test all) (filter test all) ≡ first ++ q ∷ others
        → ((rest : List Request) → filter test all ≡ rest ++ q ∷ others → Splits test all rest q) → Splits test (x ∷ all) first q
    step false h first g later =
        let r = later first g in
        record { before = x ∷ r.before; later = r.later; is = ap (λ (l : List Request). x ∷ l) r.is; passing = rw h r.passing }
    step true h [] g later =
        let same : x ≡ q = ap (λ (l : List Request). get_or l 0 x) g in
        record { before = []; later = all; is = ap (λ (y : Request). y ∷ all) same; passing = refl }
    step true h (a ∷ first) g later =
        let same : x ≡ a = ap (λ (l : List Request). get_or l 0 x) g in
        let r = later first (ap (drop 1) g) in
        record {
          before = x ∷ r.before;
          later = r.later;
          is = ap (λ (l : List Request). x ∷ l) r.is;
          passing = rw h (ap (λ (l : List Request). x ∷ l) r.passing ∙ ap (λ (y : Request). y ∷ first) same);
        }

-- the requests of the entry's processor, with its own among them
own_here : (e : HistoryEntry) (es fs : List HistoryEntry) → own e.cpu (requests (es ++ e ∷ fs)) ≡ own e.cpu (requests es) ++ request_of e ∷ own e.cpu (requests fs)
own_here e es fs =
    let mine : is_of e.cpu (request_of e) ≡ true = eq-eqb (cpu_of (request_of e)) e.cpu (request_cpu e) in
    let here : own e.cpu (request_of e ∷ requests fs) ≡ request_of e ∷ own e.cpu (requests fs) = rw mine refl in
    ap (own e.cpu) (map-append request_of es (e ∷ fs)) ∙ filter-append (is_of e.cpu) (requests es) (request_of e ∷ requests fs)
    ∙ ap (λ (l : List Request). own e.cpu (requests es) ++ l) here

pub entry_line : (P : Plan) (asked : List Request) (es fs : List HistoryEntry) (e : HistoryEntry) → e.cpu < length P.cpus → Lawful P asked None (es ++ e ∷ fs) → HasLine P asked es e
entry_line P asked es fs e lt run =
    let none = last_before power es fs e run.legal.well_formed.fault in
    let b = run.begins e.cpu lt in
    let whole : own e.cpu asked ≡ own e.cpu (requests es) ++ request_of e ∷ (own e.cpu (requests fs) ++ b.rest) =
    b.is ∙ ap (λ (l : List Request). l ++ b.rest) (own_here e es fs) ∙ append_assoc (own e.cpu (requests es)) (request_of e ∷ own e.cpu (requests fs)) b.rest in
    let r = split_at (is_of e.cpu) asked (own e.cpu (requests es)) (request_of e) (own e.cpu (requests fs) ++ b.rest) whole in
    record {
      before = r.before;
      later = r.later;
      is = r.is;
      made = sym r.passing;
      limits = λ kind. histories_own P kind e.cpu es none ∙ ap (limit_after P kind e.cpu) (sym r.passing);
    }
