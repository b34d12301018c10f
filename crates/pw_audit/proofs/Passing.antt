-- Lines that a text has one after the other.
use Rattle.std.proofs.Common.{◌≡◌, ◌<◌, ◌≤◌, ◌+◌, ◌∙◌, ℕ, List, [], ◌∷◌, ◌++◌, map, take, drop, length, length-take, get_or, refl, ap, sym, arith, append_assoc, append-nil, take-append-drop}
use Rattle.std.proofs.lemmas.Grind.{flat_map-append}
use Rattle.std.proofs.lemmas.List.{get_or-map, length-append, length-drop, length-map, map-append, take-map, take_more}
use Rattle.acpi_values.specs.declared.operation.Op.{Op}
use Rattle.pw_text.specs.Lines.{text_of, with_feed}
use Rattle.pw_history.specs.Wording.{Wording}
use Rattle.pw_history.specs.HistoryText.{op_line}
use Rattle.pw_history.proofs.Nexts.{taken as next_of}
use Rattle.pw_audit.specs.declared.answer.AuditFault.{AuditFault}
use Rattle.pw_audit.specs.declared.answer.AuditFault.TheVariants.{TooLong, Wrong, Unfinished, Memory}
use Rattle.pw_audit.specs.declared.form.Form.TheVariants.{History}
use Rattle.pw_audit.specs.inner.Stopping.{MissesLine, OpsRead, StopsIn, StopsInOps}
use Rattle.pw_base.proofs.Facts.{empty}

pub text_of-append : (xs ys : List (List ℕ)) → text_of (xs ++ ys) ≡ text_of xs ++ text_of ys
text_of-append xs ys = flat_map-append with_feed xs ys

pub text_of-one : (l : List ℕ) → text_of (l ∷ []) ≡ with_feed l
text_of-one l = append-nil (with_feed l)

-- a text that misses line k of these
pub stops_here : (ls : List (List ℕ)) (n k : ℕ) (left rest line : List ℕ) (fault : AuditFault) → k < length ls → left ≡ text_of (take k ls) ++ rest → line ≡ with_feed (get_or ls k [])
    → MissesLine line (n + k) rest fault → StopsIn ls n left fault
stops_here ls n k left rest line (TooLong bound) lt is same h = absurd h
stops_here ls n k left rest line (Wrong number) lt is same h = (
  k,
  record {
    within = lt;
    rest = rest;
    is = is;
    some = h.1;
    other = λ b. h.2 (record { rest = b.rest; is = b.is ∙ ap (λ (l : List ℕ). l ++ b.rest) (sym same) });
  },
  h.0,
)
stops_here ls n k left rest line (Unfinished lines) lt is same h = (
  k,
  record { within = lt; is = is ∙ ap (λ (l : List ℕ). text_of (take k ls) ++ l) (empty rest h.1) ∙ append-nil (text_of (take k ls)) },
  h.0,
)
stops_here ls n k left rest line Memory lt is same h = absurd h

-- # The lines of elements

-- a line takes a byte at least
pub shorter : (rest next l : List ℕ) → rest ≡ with_feed l ++ next → length next + 1 ≤ length rest
shorter rest next l e =
    let a : length rest ≡ length (with_feed l) + length next = ap length e ∙ length-append (with_feed l) next in
    let b : length (with_feed l) ≡ length l + 1 = length-append l (10 ∷ []) in
    omega (arith, a, b)

module _ {X : Type 0} (f : X → List ℕ) where
  taken : (k : ℕ) (xs : List X) (d : X) → k < length xs → map f (take (k + 1) xs) ≡ map f (take k xs) ++ f (get_or xs k d) ∷ []
  taken k xs d lt = ap (λ (l : List X). map f l) (take_more xs k d lt) ∙ map-append f (take k xs) (get_or xs k d ∷ [])

  -- a text that goes on with the next line
  pub passed_on : (k : ℕ) (xs : List X) (d : X) (left rest next line : List ℕ) → k < length xs → left ≡ text_of (map f (take k xs)) ++ rest → line ≡ with_feed (f (get_or xs k d))
      → rest ≡ line ++ next → left ≡ text_of (map f (take (k + 1) xs)) ++ next
  passed_on k xs d left rest next line lt is same goes =
      let shown = text_of (map f (take k xs)) in
      let more : text_of (map f (take (k + 1) xs)) ≡ shown ++ line =
      ap text_of (taken k xs d lt) ∙ text_of-append (map f (take k xs)) (f (get_or xs k d) ∷ []) ∙ ap (λ (l : List ℕ). shown ++ l) (text_of-one (f (get_or xs k d)) ∙ sym same) in
      is ∙ ap (λ (l : List ℕ). shown ++ l) goes ∙ sym (append_assoc shown line next) ∙ ap (λ (l : List ℕ). l ++ next) (sym more)

  pub shorter_on : (k : ℕ) (xs : List X) (d : X) (rest next line : List ℕ) → line ≡ with_feed (f (get_or xs k d)) → rest ≡ line ++ next → length next + 1 ≤ length rest
  shorter_on k xs d rest next line same goes = shorter rest next (f (get_or xs k d)) (goes ∙ ap (λ (l : List ℕ). l ++ next) same)

  pub take_mapped : (k : ℕ) (xs : List X) → take k (map f xs) ≡ map f (take k xs)
  take_mapped k xs = take-map f k xs

  -- a text that misses the next line
  pub stops_at : (n k : ℕ) (xs : List X) (d : X) (left rest line : List ℕ) (fault : AuditFault) → k < length xs → left ≡ text_of (map f (take k xs)) ++ rest
      → line ≡ with_feed (f (get_or xs k d)) → MissesLine line (n + k) rest fault → StopsIn (map f xs) n left fault
  stops_at n k xs d left rest line fault lt is same h =
      stops_here (map f xs) n k left rest line fault (omega (arith, lt, length-map xs f))
      (is ∙ ap (λ (ls : List (List ℕ)). text_of ls ++ rest) (sym (take_mapped k xs))) (same ∙ ap with_feed (sym (get_or-map f xs k d [] lt))) h

after_these : (ls : List (List ℕ)) (k : ℕ) (l : List ℕ) (more : List (List ℕ)) → k < length ls → take k ls ++ l ∷ more ≡ ls → l ≡ get_or ls k []
after_these ls k l more lt same = next_of k ls [] l more lt (same ∙ sym (append-nil ls))

left_over : (ls : List (List ℕ)) (k : ℕ) → k < length ls → 0 < length (drop k ls)
left_over ls k lt = let n = length-drop k ls in omega arith

-- # Operations that are passed over

module _ {Plan Request Reply Entry State : Type 0} (W : Wording Plan Request Reply Entry State) where
  -- in the order in which they are listed
  pub listed_read : (plan : Plan) (ops : List Op) (left rest : List ℕ) → left ≡ text_of (map (op_line W plan) ops) ++ rest → OpsRead W History plan ops left rest
  listed_read plan ops left rest is = record { lines = map (op_line W plan) ops; tells = refl; is = is }

  pub listed_stops : (plan : Plan) (ops : List Op) (n : ℕ) (left : List ℕ) (fault : AuditFault) → StopsIn (map (op_line W plan) ops) n left fault → StopsInOps W History plan ops n left fault
  listed_stops plan ops n left (TooLong bound) stops = absurd stops
  listed_stops plan ops n left (Wrong line) (k, breaks, at) =
      let ls = map (op_line W plan) ops in
      let size = length-take k ls in
      let lt = breaks.within in (
        record {
          done = take k ls;
          later = drop k ls;
          tells = take-append-drop k ls;
          lacks = left_over ls k lt;
          rest = breaks.rest;
          is = breaks.is;
          some = breaks.some;
          other = λ l more same b. breaks.other (record { rest = b.rest; is = b.is ∙ ap (λ (x : List ℕ). with_feed x ++ b.rest) (after_these ls k l more lt same) });
        },
        omega arith,
      )
  listed_stops plan ops n left (Unfinished lines) (k, ends, at) =
      let ls = map (op_line W plan) ops in
      let size = length-take k ls in
      let lt = ends.within in
      (record { done = take k ls; later = drop k ls; tells = take-append-drop k ls; lacks = left_over ls k lt; is = ends.is }, omega arith)
  listed_stops plan ops n left Memory stops = tt
