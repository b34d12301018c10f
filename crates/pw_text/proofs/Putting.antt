-- Texts that are put one after another.
use Rattle.std.proofs.Common.{◌≡◌, ◌+◌, ℕ, Bool, true, false, List, [], ◌++◌, Result, Ok, Err, OnOk, OnErr, IsErr, is_ok, take, drop, length, refl, sym, ◌∙◌, ap, subst, append_assoc, arith}
use Rattle.std.proofs.lemmas.List.{append-nil, append_cancel_left, take-append-drop}
use Rattle.std.proofs.Math.Seq.{take-length, take-append_seam, take-append-add}
use Rattle.pw_base.specs.declared.sink.Sink.{Ghosts as Sink}
use Rattle.pw_base.specs.Outside.{KeepsSink, Rose, GrewByPart}
use Rattle.pw_base.proofs.Keeping.{KeepsSink-then}
use Rattle.pw_text.specs.Puts.{PutsText}

-- a beginning of a text is a beginning of a longer one
grew_on : (old new text more : List ℕ) → GrewByPart old new text → GrewByPart old new (text ++ more)
grew_on old new text more (n, e) =
    let begun = take n text in
    let parts : text ++ more ≡ begun ++ (drop n text ++ more) = ap (λ t. t ++ more) (sym (take-append-drop n text)) ∙ append_assoc begun (drop n text) more in
    (length begun, e ∙ ap (λ t. old ++ t) (sym (ap (λ t. take (length begun) t) parts ∙ take-append_seam begun (drop n text ++ more))))

-- a list that grew by a beginning, and then by a beginning of what was left and more
grew_twice : (old mid new text left more : List ℕ) → mid ++ left ≡ old ++ text → GrewByPart old mid text → GrewByPart mid new (left ++ more) → GrewByPart old new (text ++ more)
grew_twice old mid new text left more all (n, e) (m, f) =
    let begun = take n text in
    let whole : begun ++ left ≡ text = append_cancel_left old (begun ++ left) text (sym (append_assoc old begun left) ∙ ap (λ t. t ++ left) (sym e) ∙ all) in
    let parts : text ++ more ≡ begun ++ (left ++ more) = ap (λ t. t ++ more) (sym whole) ∙ append_assoc begun left more in
    let cut : take (length begun + m) (text ++ more) ≡ begun ++ take m (left ++ more) = ap (λ t. take (length begun + m) t) parts ∙ take-append-add begun (left ++ more) m in
    (length begun + m, f ∙ ap (λ t. t ++ take m (left ++ more)) e ∙ append_assoc old begun (take m (left ++ more)) ∙ ap (λ t. old ++ t) (sym cut))

module _ {S : Type 0} {K : Sink S} where
  -- nothing was put
  pub PutsText-none : (a : S) (waited : List ℕ) → PutsText K a a waited waited [] true
  PutsText-none a waited = record {
    keeps = record { same_told = refl; count = omega arith };
    whole = λ h t. ap (λ x. K.written a ++ x) (sym (append-nil waited));
    part = λ t. (0, sym (append-nil (K.written a)));
    failed = λ h. absurd (cc);
    emptied = λ h. absurd (cc);
  }

  -- a text was put on the page alone
  pub PutsText-page : (a : S) (waited text : List ℕ) → PutsText K a a waited (waited ++ text) text true
  PutsText-page a waited text = record {
    keeps = record { same_told = refl; count = omega arith };
    whole = λ h t. refl;
    part = λ t. (0, sym (append-nil (K.written a)));
    failed = λ h. absurd (cc);
    emptied = λ h. absurd (cc);
  }

  -- what waited and a text went to the sink
  pub PutsText-sent : {A E : Type 0} {a b : S} (waited text sent : List ℕ) (r : Result A E)
      → sent ≡ waited ++ text → KeepsSink K.told K.faults a b → OnOk r (K.told a ≡ true → K.written b ≡ K.written a ++ sent)
      → OnErr r (Rose (K.faults a) (K.faults b)) → OnErr r (K.told a ≡ true → GrewByPart (K.written a) (K.written b) sent)
      → PutsText K a b waited [] text (is_ok r)
  PutsText-sent {A} {E} {a} {b} waited text sent (Ok x) e keeps ok failed part = record {
    keeps = keeps;
    whole = λ h t. append-nil (K.written b) ∙ ok t ∙ ap (λ l. K.written a ++ l) e;
    part = λ t. (length (waited ++ text), ok t ∙ ap (λ l. K.written a ++ l) (e ∙ sym (take-length (waited ++ text))));
    failed = λ h. absurd (cc);
    emptied = λ h. refl;
  }
  PutsText-sent {A} {E} {a} {b} waited text sent (Err x) e keeps ok failed part = record {
    keeps = keeps;
    whole = λ h t. absurd (cc);
    part = λ t. subst (λ l. GrewByPart (K.written a) (K.written b) l) e (part t);
    failed = λ h. failed;
    emptied = λ h. refl;
  }

  -- two texts were put, one after the other
  pub PutsText-then : {a b c : S} {waited left waits first second : List ℕ} {done : Bool}
      → PutsText K a b waited left first true → PutsText K b c left waits second done
      → PutsText K a c waited waits (first ++ second) done
  PutsText-then {a} {b} {c} {waited} {left} {waits} {first} {second} p q = record {
    keeps = KeepsSink-then p.keeps q.keeps;
    whole = λ h t. q.whole h (p.keeps.same_told ∙ t) ∙ sym (append_assoc (K.written b) left second) ∙ ap (λ l. l ++ second) (p.whole refl t)
        ∙ append_assoc (K.written a) (waited ++ first) second ∙ ap (λ l. K.written a ++ l) (append_assoc waited first second);
    part = λ t. subst (λ l. GrewByPart (K.written a) (K.written c) l) (append_assoc waited first second)
        (grew_twice (K.written a) (K.written b) (K.written c) (waited ++ first) left second (p.whole refl t) (p.part t) (q.part (p.keeps.same_told ∙ t)));
    failed = λ h. let rose = q.failed h in let kept = p.keeps.count in λ below. let r = rose below in omega arith;
    emptied = q.emptied;
  }

  -- a text that failed to be put stops what comes after it
  pub PutsText-stop : {A E : Type 0} {a b : S} {waited waits first : List ℕ} (second : List ℕ) (r : Result A E)
      → IsErr r → PutsText K a b waited waits first false → PutsText K a b waited waits (first ++ second) (is_ok r)
  PutsText-stop second (Ok x) h p = absurd (cc)
  PutsText-stop {A} {E} {a} {b} {waited} {waits} {first} second (Err x) h p = record {
    keeps = p.keeps;
    whole = λ h t. absurd (cc);
    part = λ t. subst (λ l. GrewByPart (K.written a) (K.written b) l) (append_assoc waited first second)
        (grew_on (K.written a) (K.written b) (waited ++ first) second (p.part t));
    failed = p.failed;
    emptied = p.emptied;
  }

  -- the same text in other words
  pub PutsText-as : {a b : S} {waited waits text : List ℕ} {done : Bool} (said : List ℕ)
      → text ≡ said → PutsText K a b waited waits text done → PutsText K a b waited waits said done
  PutsText-as {a} {b} {waited} {waits} {text} {done} said e p = subst (λ t. PutsText K a b waited waits t done) e p

  -- the first of three failed to be put
  pub stop_at_first : {A E : Type 0} {a b : S} {waited waits first : List ℕ} (second third : List ℕ) (r : Result A E) → IsErr r
      → PutsText K a b waited waits first false → PutsText K a b waited waits ((first ++ second) ++ third) (is_ok r)
  stop_at_first {first = first} second third r failed p = PutsText-as ((first ++ second) ++ third) (sym (append_assoc first second third)) (PutsText-stop (second ++ third) r failed p)
