-- Texts that are put one after another by calls that take memory.
use Rattle.std.proofs.Common.{◌≡◌, ◌+◌, ℕ, Bool, true, false, List, [], ◌++◌, Result, Ok, Err, IsErr, IsErrAnd, is_ok, take, drop, length, refl, sym, ◌∙◌, ap, subst, append_assoc}
use Rattle.std.proofs.lemmas.List.{append-nil, take-append-drop}
use Rattle.std.proofs.Math.Seq.{take-append_seam, take-append-add}
use Rattle.pw_base.specs.declared.sink.Sink.{Ghosts as Sink}
use Rattle.pw_base.specs.Outside.{GrewByPart}
use Rattle.pw_text.specs.Puts.{PutsText}
use Rattle.pw_text.specs.declared.fault.PrintFault.{PrintFault}
use Rattle.pw_text.specs.declared.fault.PrintFault.TheVariants as faults
use Rattle.pw_text.proofs.Putting.{PutsText-as, PutsText-none, PutsText-stop, PutsText-then}
use Rattle.pw_show.specs.inner.Putting.{PutsUnlessMemory, SinkAlone}

-- a beginning of a text begins a longer one
begins : (n : ℕ) (text more : List ℕ) → take n text ≡ take (length (take n text)) (text ++ more)
begins n text more =
    let begun = take n text in
    let parts : begun ++ (drop n text ++ more) ≡ text ++ more =
    sym (append_assoc begun (drop n text) more) ∙ ap (λ l. l ++ more) (take-append-drop n text) in
    sym (take-append_seam begun (drop n text ++ more)) ∙ ap (λ l. take (length begun) l) parts

-- a call that failed isn't a success
not_ok : {A E : Type 0} (r : Result A E) → IsErr r → is_ok r ≡ true → ⊥
not_ok (Ok x) h e = cc
not_ok (Err x) h e = cc

-- the fault that a call answers
pub fault_is : {A E : Type 0} (r : Result A E) (e : E) → IsErrAnd r (λ x. x ≡ e) → r ≡ Err e
fault_is (Ok x) e h = absurd h
fault_is (Err x) e h = ap Err h

-- the two faults as outcomes of a call
abbrev of_sink : {A : Type 0} → Result A PrintFault
of_sink = Err faults.Sink

abbrev of_memory : {A : Type 0} → Result A PrintFault
of_memory = Err faults.Memory

module _ {A S : Type 0} {K : Sink S} where
  -- a text was put
  pub puts_done : {a b : S} {waited waits text : List ℕ} (x : A) → PutsText K a b waited waits text true
      → PutsUnlessMemory K a b waited waits text (Ok x)
  puts_done x p = record { whole = λ h. p; sink = λ h. absurd (cc); memory = λ h. absurd (cc) }

  -- the sink failed
  pub puts_failed : {a b : S} {waited waits text : List ℕ} {r : Result A PrintFault} → r ≡ Err faults.Sink
      → PutsText K a b waited waits text false → PutsUnlessMemory K a b waited waits text r
  puts_failed {r = r} is p = record {
    whole = λ h. let no : false ≡ true = sym (ap is_ok is) ∙ h in absurd (cc);
    sink = λ h. p;
    memory = λ h. let no : of_sink {A = A} ≡ of_memory = sym is ∙ h in absurd (cc);
  }

  -- memory ran out before a byte was put
  pub puts_nothing : {a : S} {waited : List ℕ} {r : Result A PrintFault} (text : List ℕ) → r ≡ Err faults.Memory
      → PutsUnlessMemory K a a waited waited text r
  puts_nothing {a = a} {waited = waited} {r = r} text is = record {
    whole = λ h. let no : false ≡ true = sym (ap is_ok is) ∙ h in absurd (cc);
    sink = λ h. let no : of_memory {A = A} ≡ of_sink = sym is ∙ h in absurd (cc);
    memory = λ h. (0, PutsText-none a waited);
  }

  -- a text was put by a call that takes no memory
  pub puts_alone : {B E : Type 0} {a b : S} {waited waits text : List ℕ} {plain : Result B E} {r : Result A PrintFault} → SinkAlone plain r
      → PutsText K a b waited waits text (is_ok plain) → PutsUnlessMemory K a b waited waits text r
  puts_alone {a = a} {b = b} {waited = waited} {waits = waits} {text = text} {r = Ok x} alone p =
      puts_done x (subst (λ d. PutsText K a b waited waits text d) (sym alone.same) p)
  puts_alone {a = a} {b = b} {waited = waited} {waits = waits} {text = text} {r = Err e} alone p =
      puts_failed (alone.fault refl) (subst (λ d. PutsText K a b waited waits text d) (sym alone.same) p)

  -- a text was put, and then another
  pub puts_then : {a b c : S} {waited left waits first second : List ℕ} {r : Result A PrintFault}
      → PutsText K a b waited left first true → PutsUnlessMemory K b c left waits second r
      → PutsUnlessMemory K a c waited waits (first ++ second) r
  puts_then {first = first} {second = second} p q = record {
    whole = λ h. PutsText-then p (q.whole h);
    sink = λ h. PutsText-then p (q.sink h);
    memory = λ h. let part = q.memory h in
        (length first + part.0, PutsText-as _ (sym (take-append-add first second part.0)) (PutsText-then p part.1));
  }

  -- what failed stops what comes after it
  pub puts_stop : {a b : S} {waited waits first : List ℕ} {r : Result A PrintFault} (second : List ℕ) → IsErr r
      → PutsUnlessMemory K a b waited waits first r → PutsUnlessMemory K a b waited waits (first ++ second) r
  puts_stop {first = first} {r = r} second failed p = record {
    whole = λ h. absurd (not_ok r failed h);
    sink = λ h. PutsText-stop second (of_sink {A = A}) refl (p.sink h);
    memory = λ h. let part = p.memory h in (length (take part.0 first), PutsText-as _ (begins part.0 first second) part.1);
  }

  -- the same text in other words, and the same outcome
  pub puts_as : {a b : S} {waited waits text : List ℕ} {r s : Result A PrintFault} (said : List ℕ) → text ≡ said → r ≡ s
      → PutsUnlessMemory K a b waited waits text r → PutsUnlessMemory K a b waited waits said s
  puts_as {a} {b} {waited} {waits} {text} {r} {s} said e f p =
      subst (λ o. PutsUnlessMemory K a b waited waits said o) f (subst (λ t. PutsUnlessMemory K a b waited waits t r) e p)

module _ {S : Type 0} {K : Sink S} where
  -- what a sink has of a text that was put by way of an empty page, which was then handed over
  pub part_of : {a b c : S} {waited left waits text : List ℕ} {done : Bool} → waited ≡ [] → PutsText K a b waited left text true
      → PutsText K b c left waits [] done → K.told a ≡ true → GrewByPart (K.written a) (K.written c) text
  part_of {a} {b} {c} {waited} {left} {waits} {text} none p q =
      let both = PutsText-as text (append-nil text) (PutsText-then p q) in
      λ tells. subst (λ l. GrewByPart (K.written a) (K.written c) (l ++ text)) none (both.part tells)
