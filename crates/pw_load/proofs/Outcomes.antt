-- How a command ended, from what became of its outputs.
use Rattle.std.proofs.Common.{◌≡◌, ℕ, Bool, true, false, List, [], ◌++◌, Result, Ok, Err, OnOk, take, codes, inl, inr, ◌⊎◌, refl, sym, ap, ◌∙◌}
use Rattle.std.proofs.lemmas.Bool.{false≢true}
use Rattle.std.proofs.lemmas.List.{append-nil}
use Rattle.pw_base.specs.declared.sink.Sink.{Ghosts as Sink}
use Rattle.pw_base.specs.Outside.{GrewByPart, Rose}
use Rattle.pw_base.specs.Seen.{sink_seen, Grew, GrewByLine}
use Rattle.pw_text.specs.declared.fault.PrintFault.{PrintFault}
use Rattle.pw_text.specs.declared.fault.PrintFault.TheVariants as faults
use Rattle.pw_load.specs.Seen.{Outputs, outputs_seen}
use Rattle.pw_load.specs.Ends.{Work, Stops, Does, Did, Ended, Stopped, print_line, print_status}
use Rattle.pw_load.specs.Ends.Stops.{refused, read_fault, without_memory}
use Rattle.pw_load.specs.Ends.Prints.{whole, write_fault, cut}
use Rattle.pw_load.specs.Ends.Does.{stopped, printed}

-- how much of a text a sink took, whether it tells or not
pub part_taken : (told : Bool) (old new text : List ℕ) → (told ≡ true → GrewByPart old new text) → (n : ℕ) × (told ≡ true → new ≡ old ++ take n text)
part_taken true old new text part = let p = part refl in (p.0, λ tells. p.1)
part_taken false old new text part = (0, λ tells. absurd (false≢true tells))

-- nothing was said on a sink that stayed
pub nothing_said : {S : Type 0} (K : Sink S) (s : S) → GrewByLine (sink_seen K s) (sink_seen K s) []
nothing_said K s = λ tells. inl (sym (append-nil (K.written s)))

-- nothing was printed on it
pub nothing_printed : {S : Type 0} (K : Sink S) (s : S) → Grew (sink_seen K s) (sink_seen K s) []
nothing_printed K s = λ tells. sym (append-nil (K.written s))

-- a line was said, and nothing printed
pub ended_saying : {S : Type 0} {ways : ℕ → List ℕ → List ℕ → Type 0} (K : Sink S) (out err err' : S) (line : List ℕ) (status : ℕ)
    → ways status [] line → GrewByLine (sink_seen K err) (sink_seen K err') line → Ended ways (outputs_seen K out err) (outputs_seen K out err') status
ended_saying K out err err' line status way said = record { text = []; line = line; way = way; on_out = nothing_printed K out; on_err = said }

-- a text was printed, and nothing said
pub ended_printing : {S : Type 0} {ways : ℕ → List ℕ → List ℕ → Type 0} (K : Sink S) (out out' err : S) (text : List ℕ) (status : ℕ)
    → ways status text [] → Grew (sink_seen K out) (sink_seen K out') text → Ended ways (outputs_seen K out err) (outputs_seen K out' err) status
ended_printing K out out' err text status way grew = record { text = text; line = []; way = way; on_out = grew; on_err = nothing_said K err }

-- a beginning of a text was printed, and a line said
pub ended_within : {S : Type 0} {ways : ℕ → List ℕ → List ℕ → Type 0} (K : Sink S) (out out' err err' : S) (text line : List ℕ) (status : ℕ)
    → ((n : ℕ) → ways status (take n text) line) → (K.told out ≡ true → GrewByPart (K.written out) (K.written out') text)
    → GrewByLine (sink_seen K err) (sink_seen K err') line → Ended ways (outputs_seen K out err) (outputs_seen K out' err') status
ended_within K out out' err err' text line status way part said =
    let taken = part_taken (K.told out) (K.written out) (K.written out') text part in
    record { text = take taken.0 text; line = line; way = way taken.0; on_out = taken.1; on_err = said }

-- a command stopped
pub did_stop : {S : Type 0} {work : Work} (K : Sink S) (out err err' : S) (status : ℕ) → Stopped work (sink_seen K err) (sink_seen K err') status
    → Did work (outputs_seen K out err) (outputs_seen K out err') status
did_stop K out err err' status s = ended_saying K out err err' s.line status (stopped s.way) s.said

-- a text was printed as far as the output and memory went
pub did_print : {S : Type 0} (work : Work) (K : Sink S) (out out' err err' : S) (text : List ℕ) (outcome : Result (Unit {0}) PrintFault)
    → work.text text → OnOk outcome (K.told out ≡ true → K.written out' ≡ K.written out ++ text)
    → (K.told out ≡ true → GrewByPart (K.written out) (K.written out') text)
    → (outcome ≡ Err faults.Sink → Rose (K.faults out) (K.faults out'))
    → (outcome ≡ Err faults.Memory → (work.in_pieces ≡ true) ⊎ (out' ≡ out))
    → GrewByLine (sink_seen K err) (sink_seen K err') (print_line outcome)
    → Did work (outputs_seen K out err) (outputs_seen K out' err') (print_status outcome)
did_print work K out out' err err' text (Ok x) is all part sink memory said =
    record { text = text; line = []; way = printed is whole; on_out = all; on_err = said }
did_print work K out out' err err' text (Err faults.Sink) is all part sink memory said =
    let taken = part_taken (K.told out) (K.written out) (K.written out') text part in
    record { text = take taken.0 text; line = codes "write fault\n"; way = printed is (write_fault taken.0 (sink refl)); on_out = taken.1; on_err = said }
did_print work K out out' err err' text (Err faults.Memory) is all part sink memory said =
    let taken = part_taken (K.told out) (K.written out) (K.written out') text part in
    elim (memory refl) [
      | inl pieces ↦ record { text = take taken.0 text; line = codes "no memory\n"; way = printed is (cut taken.0 pieces); on_out = taken.1; on_err = said }
      | inr same ↦ record {
        text = [];
        line = codes "no memory\n";
        way = stopped without_memory;
        on_out = λ tells. ap K.written same ∙ sym (append-nil (K.written out));
        on_err = said;
      }
    ]

-- one way is another
pub ended_as : {ways others : ℕ → List ℕ → List ℕ → Type 0} {before after : Outputs} {status : ℕ}
    → ((text line : List ℕ) → ways status text line → others status text line) → Ended ways before after status → Ended others before after status
ended_as other ended = record { text = ended.text; line = ended.line; way = other ended.text ended.line ended.way; on_out = ended.on_out; on_err = ended.on_err }

-- # One work within another

-- what one work does is what another does
pub record IsWithin (inner outer : Work) : Type 0 where
  pub texts : (text : List ℕ) → inner.text text → outer.text text
  pub refusals : (status : ℕ) (line : List ℕ) → inner.refusal status line → outer.refusal status line
  pub read_faults : inner.read_fault → outer.read_fault
  pub pieces : inner.in_pieces ≡ true → outer.in_pieces ≡ true

stops_within : {inner outer : Work} {status : ℕ} {line : List ℕ} → IsWithin inner outer → Stops inner status line → Stops outer status line
stops_within w (refused r) = refused (w.refusals _ _ r)
stops_within w (read_fault u) = read_fault (w.read_faults u)
stops_within w without_memory = without_memory

does_within : {inner outer : Work} {before after : Outputs} {status : ℕ} (text line : List ℕ) → IsWithin inner outer → Does inner before after status text line
    → Does outer before after status text line
does_within text line w (stopped s) = stopped (stops_within w s)
does_within text line w (printed is whole) = printed (w.texts _ is) whole
does_within text line w (printed is (write_fault n rose)) = printed (w.texts _ is) (write_fault n rose)
does_within text line w (printed is (cut n pieces)) = printed (w.texts _ is) (cut n (w.pieces pieces))

pub did_within : {inner outer : Work} {before after : Outputs} {status : ℕ} → IsWithin inner outer → Did inner before after status → Did outer before after status
did_within w did = ended_as (λ text line way. does_within text line w way) did

pub stopped_within : {S : Type 0} {inner outer : Work} (K : Sink S) (err err' : S) {status : ℕ} → IsWithin inner outer
    → Stopped inner (sink_seen K err) (sink_seen K err') status → Stopped outer (sink_seen K err) (sink_seen K err') status
stopped_within K err err' w s = record { line = s.line; way = stops_within w s.way; said = s.said }
