-- The walk over the entries of a text.
use Rattle.std.proofs.Common.{◌≡◌, ◌≢◌, ◌<◌, ◌≤◌, ◌==◌, ◌+◌, ◌∙◌, ℕ, true, false, eqb-true, List, [], ◌∷◌, ◌++◌, length, None, refl, ap, sym, subst, arith, append_assoc, append-nil}
use Rattle.std.specs.List.{AllByRecursion}
use Rattle.std.proofs.lemmas.Bool.{eqb-false}
use Rattle.std.proofs.lemmas.List.{length-append}
use Rattle.pw_text.specs.Lines.{text_of}
use Rattle.pw_audit.specs.declared.answer.AuditFault.{AuditFault}
use Rattle.pw_audit.specs.declared.form.Form.{Form}
use Rattle.pw_audit.specs.inner.Queues.{EachOwn, Leaves, left_of}
use Rattle.pw_audit.specs.inner.Stopping.{EntryRead, MayCome, OpeningRead, Refuses, StopsAtEntry, known}
use Rattle.pw_audit.specs.inner.Walking.{Steps, Walked}
use Rattle.pw_audit.proofs.Entries.{lines_few}
use Rattle.pw_audit.proofs.Entering.{at_entry, behind_fault, faulty_run, lines_left_over, run_of}
use Rattle.pw_audit.proofs.Following.{faultless_step, faulty, goes_on, leaves_own, leaves_step, replay_step, start_none}
use Rattle.pw_audit.proofs.Knowing.{own_known}
use Rattle.pw_audit.proofs.Passing.{text_of-append}
use Rattle.pw_audit.proofs.Told.{ops_length, tells_append, tells_one}
use Rattle.pw_kind.specs.History as histories
use Rattle.pw_history.specs.Asked.{CanBeAsked, IsRunOf, IsStart, own}
use Rattle.pw_history.specs.HistoryText.{entry_line}
use Rattle.pw_history.specs.Wholes.{pieces_of}
use Rattle.pw_history.specs.Telling.{TextsTell}
use Rattle.pw_history.specs.Wording.{Wording}
use Rattle.pw_history.proofs.Each.{each_append}
use Rattle.pw_audit.specs.Tracing.{IsUnfinishedAs, IsWrongAs, ShowsAs, Tells, TextTells}

module _ {Plan Request Reply Entry State : Type 0} (W : Wording Plan Request Reply Entry State) where
  pub walked_init : (Fits : Plan → State → Type 0) (form : Form) (plan : Plan) (L : List Request) (text : List ℕ) (S : State) (queues : List (List Request)) (passed : ℕ) (left : List ℕ)
      → S ≡ W.kind.opening plan → Fits plan S
      → Leaves W plan L [] queues → OpeningRead W form plan None text passed left → Walked W Fits form plan L text [] S queues passed left
  unfolding histories.replay
  walked_init Fits form plan L text S queues passed left state fits leaves read = record {
    start = start_none W plan L;
    faultless = tt;
    seats = tt;
    state = state;
    fits = fits;
    leaves = leaves;
    first = read.first;
    told = [];
    opens = read.opens;
    tells = refl;
    lines = read.lines ∙ ap (λ (ls : List (List ℕ)). length ls) (sym (append-nil read.first));
    is = read.is ∙ ap (λ (ls : List (List ℕ)). text_of ls ++ left) (sym (append-nil read.first));
    out = λ trace alone none. read.out trace alone;
  }

no_bytes : (xs : List ℕ) → length xs ≡ 0 → xs ≡ []
no_bytes [] e = refl
no_bytes (x ∷ xs) e = absurd (omega arith)

-- a text has a byte at least for each of its lines
few_lines : (text left : List ℕ) (ls : List (List ℕ)) → text ≡ text_of ls ++ left → length ls + length left ≤ length text
few_lines text left ls is =
    let few = lines_few ls in
    let size : length text ≡ length (text_of ls) + length left = ap length is ∙ length-append (text_of ls) left in
    omega arith

not_empty : {X : Type 0} (H : List X) (e : X) → H ++ e ∷ [] ≡ [] → ⊥
not_empty [] e same = cc
not_empty (x ∷ H) e same = cc

module _ {Plan Request Reply Entry State : Type 0} {W : Wording Plan Request Reply Entry State} {Fits : Plan → State → Type 0} where
  module _ {form : Form} {plan : Plan} {L : List Request} {text : List ℕ} {H : List Entry} {S : State} {queues : List (List Request)} {passed : ℕ} {left : List ℕ}
      (w : Walked W Fits form plan L text H S queues passed left) where
    pub walked_own : EachOwn W queues
    walked_own = leaves_own W plan L H queues w.leaves

    pub walked_short : passed + length left ≤ length text
    walked_short =
        let few = few_lines text left (w.first ++ w.told) w.is in
        let count = w.lines in
        omega arith

    pub walked_size : length queues ≡ W.cpus plan
    walked_size = w.leaves.size

    module _ {n : ℕ} (number : n ≡ 1 + length H) where
      pub walked_refuses : {IsNarrow : Entry → Type 0} {IsNarrowRequest : Request → Type 0} → TextsTell W plan IsNarrow IsNarrowRequest → CanBeAsked W IsNarrowRequest plan L → (fault : AuditFault)
          → 0 < length left → StopsAtEntry W form plan S n queues passed left fault → Refuses W form plan L text fault
      walked_refuses tell are fault some stops =
          at_entry form plan tell L are H w.start w.first w.told w.opens w.tells text queues w.faultless w.leaves left w.is w.out passed n fault w.lines number some
          (subst (λ (T : State). StopsAtEntry W form plan T n queues passed left fault) w.state stops)

      module _ {IsNarrow : Entry → Type 0} {IsNarrowRequest : Request → Type 0} (tell : TextsTell W plan IsNarrow IsNarrowRequest) {e : Entry} {T : State} {new : List (List Request)} {next : ℕ}
          {rest : List ℕ} (s : Steps W Fits form plan S n queues passed left e T new next rest) where
        may : MayCome W plan (histories.replay W.kind plan H) queues e
        may = subst (λ (U : State). MayCome W plan U queues e) w.state s.may

        read : EntryRead W form plan (histories.replay W.kind plan H) (1 + length H) e left rest
        read = subst (λ (U : State). EntryRead W form plan U (1 + length H) e left rest) w.state (subst (λ (m : ℕ). EntryRead W form plan S m e left rest) number s.read)

        step_start : IsStart W plan L (H ++ e ∷ [])
        step_start = goes_on W plan L tell.entries H queues w.start w.faultless w.leaves e may

        step_seats : AllByRecursion (λ (x : Entry). (W.seat x) ≡ 0) (H ++ e ∷ [])
        step_seats = each_append (λ (x : Entry). (W.seat x) ≡ 0) H (e ∷ []) w.seats (s.seat, tt)

        step_told : List (List ℕ)
        step_told = w.told ++ entry_line W plan (histories.replay W.kind plan H) (1 + length H) e ∷ read.ops

        step_tells : Tells W form plan (W.kind.opening plan) 1 (H ++ e ∷ []) step_told
        unfolding histories.replay step_told
        step_tells =
            tells_append W form plan H (e ∷ []) (W.kind.opening plan) 1 w.told (entry_line W plan (histories.replay W.kind plan H) (1 + length H) e ∷ read.ops) w.tells
            (tells_one W form plan e (histories.replay W.kind plan H) (1 + length H) read.ops read.tells)

        step_is : text ≡ text_of (w.first ++ step_told) ++ rest
        unfolding step_told
        step_is =
            let front = text_of (w.first ++ w.told) in
            let more = entry_line W plan (histories.replay W.kind plan H) (1 + length H) e ∷ read.ops in
            w.is ∙ ap (λ (l : List ℕ). front ++ l) read.is ∙ sym (append_assoc front (text_of more) rest)
            ∙ ap (λ (l : List ℕ). l ++ rest) (sym (text_of-append (w.first ++ w.told) more)) ∙ ap (λ (ls : List (List ℕ)). text_of ls ++ rest) (append_assoc w.first w.told more)

        step_whole : length rest ≡ 0 → TextTells W form plan None (H ++ e ∷ []) text
        step_whole none = record {
          first = w.first;
          later = step_told;
          opens = w.opens;
          tells = step_tells;
          is = step_is ∙ ap (λ (l : List ℕ). text_of (w.first ++ step_told) ++ l) (no_bytes rest none)
              ∙ append-nil (text_of (w.first ++ step_told));
        }

        step_lines : next ≡ length (w.first ++ step_told)
        unfolding step_told
        step_lines =
            let a = s.lines in
            let b = w.lines in
            let more = entry_line W plan (histories.replay W.kind plan H) (1 + length H) e ∷ read.ops in
            let same : length (histories.entry_ops W.kind plan S e) ≡ length (histories.entry_ops W.kind plan (histories.replay W.kind plan H) e) =
            ap (λ (U : State). length (histories.entry_ops W.kind plan U e)) w.state in
            let size = ops_length W form plan (histories.entry_ops W.kind plan (histories.replay W.kind plan H) e) read.ops read.tells in
            let whole : length (w.first ++ (w.told ++ more)) ≡ length (w.first ++ w.told) + length more =
            ap (λ (ls : List (List ℕ)). length ls) (sym (append_assoc w.first w.told more)) ∙ length-append (w.first ++ w.told) more in
            omega arith

        pub walked_step : (W.kind.fault e) ≡ 0 → Walked W Fits form plan L text (H ++ e ∷ []) T new next rest
        walked_step z = record {
          start = step_start;
          faultless = faultless_step W plan L tell.entries H queues w.start w.faultless w.leaves e z;
          seats = step_seats;
          state = s.after ∙ ap (λ (U : State). histories.after_entry W.kind plan U e) w.state ∙ sym (replay_step W plan H e);
          fits = s.fits;
          leaves = leaves_step W plan L tell.entries H queues w.start w.faultless w.leaves e new s.takes;
          first = w.first;
          told = step_told;
          opens = w.opens;
          tells = step_tells;
          lines = step_lines;
          is = step_is;
          out = λ trace alone none. absurd (not_empty H e none);
        }

        pub fault_wrong : CanBeAsked W IsNarrowRequest plan L → (W.kind.fault e) ≢ 0 → 0 < length rest → IsWrongAs W form plan L text (next + 1)
        fault_wrong are ne some =
            subst (λ (m : ℕ). IsWrongAs W form plan L text (m + 1)) (sym step_lines)
            (behind_fault form plan tell L are (H ++ e ∷ []) step_start w.first step_told w.opens step_tells text rest (faulty W H e ne) step_is some)

        fault_whole : (W.kind.fault e) ≢ 0 → IsRunOf W plan L (H ++ e ∷ [])
        fault_whole ne = faulty_run W plan L (H ++ e ∷ []) step_start (faulty W H e ne)

        pub step_short : next + length rest ≤ length text
        step_short =
            let few = few_lines text rest (w.first ++ step_told) step_is in
            let count = step_lines in
            omega arith

        pub step_shorter : length rest < length left
        step_shorter =
            let ls = entry_line W plan S n e ∷ s.read.ops in
            let few = lines_few ls in
            let size : length left ≡ length (text_of ls) + length rest = ap length s.read.is ∙ length-append (text_of ls) rest in
            omega arith

        pub fault_shows : (W.kind.fault e) ≢ 0 → length rest ≡ 0 → ShowsAs W form plan L text None (H ++ e ∷ [])
        fault_shows ne none = record { lawful = fault_whole ne; is = step_whole none; seats = step_seats }

    -- at the end of the text
    module _ (none : length left ≡ 0) where
      end_is : text ≡ text_of (w.first ++ w.told)
      end_is = w.is ∙ ap (λ (l : List ℕ). text_of (w.first ++ w.told) ++ l) (no_bytes left none) ∙ append-nil (text_of (w.first ++ w.told))

      end_text : TextTells W form plan None H text
      end_text = record { first = w.first; later = w.told; opens = w.opens; tells = w.tells; is = end_is }

      pub end_shows : ((p : ℕ) → left_of queues p ≡ []) → ShowsAs W form plan L text None H
      end_shows made = record { lawful = run_of W plan L H queues w.start w.leaves made; is = end_text; seats = w.seats }

      pub end_unfinished : {IsNarrow : Entry → Type 0} {IsNarrowRequest : Request → Type 0} → TextsTell W plan IsNarrow IsNarrowRequest → CanBeAsked W IsNarrowRequest plan L
          → (((p : ℕ) → left_of queues p ≡ []) → ⊥) → (passed ≡ length (pieces_of text)) × IsUnfinishedAs W form plan L text
      end_unfinished tell are some =
          let h = lines_left_over form plan tell L are H w.start w.first w.told w.opens w.tells text queues w.faultless w.leaves some end_is in
          (w.lines ∙ h.0, h.1)

module _ {Plan Request Reply Entry State : Type 0} (W : Wording Plan Request Reply Entry State) where
  pub leaves_init : (plan : Plan) (qs : List Request) (queues : List (List Request)) → length queues ≡ W.cpus plan → ((p : ℕ) → p < W.cpus plan → left_of queues p ≡ own W p qs)
      → Leaves W plan (known W plan qs) [] queues
  leaves_init plan qs queues size each = record { size = size; each = λ p lt. own_known W plan p qs lt ∙ sym (each p lt) }

pub some_left : (n : ℕ) → (n == 0) ≡ false → 0 < n
some_left n e = let ne = eqb-false n 0 e in omega arith

pub none_left : (n : ℕ) → (n == 0) ≡ true → n ≡ 0
none_left n e = eqb-true n 0 e
