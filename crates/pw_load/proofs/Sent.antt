-- What stands on a sink once a line was put by way of an empty page that is empty again.
use Rattle.std.proofs.Common.{◌≡◌, ℕ, List, [], ◌++◌, Result, Ok, Err, is_ok, inl, inr, refl, sym, ap, subst, ◌∙◌}
use Rattle.std.proofs.lemmas.List.{append-nil}
use Rattle.pw_base.specs.declared.sink.Sink.{Ghosts as Sink}
use Rattle.pw_base.specs.Outside.{GrewByPart}
use Rattle.pw_base.specs.Seen.{sink_seen, GrewByLine}
use Rattle.pw_text.specs.Puts.{PutsText}

module _ {S : Type 0} {K : Sink S} where
  pub sent_line : {A E : Type 0} {a b : S} {waited waits text : List ℕ} (r : Result A E) → waited ≡ [] → waits ≡ []
      → PutsText K a b waited waits text (is_ok r) → GrewByLine (sink_seen K a) (sink_seen K b) text
  sent_line {a = a} {b = b} {text = text} (Ok x) none empty p = λ tells.
      inl (sym (append-nil (K.written b)) ∙ ap (λ l. K.written b ++ l) (sym empty) ∙ p.whole refl tells ∙ ap (λ l. K.written a ++ (l ++ text)) none)
  sent_line {a = a} {b = b} {text = text} (Err e) none empty p = λ tells.
      inr (p.failed refl, subst (λ l. GrewByPart (K.written a) (K.written b) (l ++ text)) none (p.part tells))
