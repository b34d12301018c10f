-- What stands on a sink once a text was put by way of an empty page that is empty again.
use Rattle.std.proofs.Common.{◌≡◌, ℕ, Bool, true, List, [], ◌++◌, refl, sym, ap, subst, ◌∙◌}
use Rattle.std.proofs.lemmas.List.{append-nil}
use Rattle.pw_base.specs.declared.sink.Sink.{Ghosts as Sink}
use Rattle.pw_base.specs.Outside.{GrewByPart}
use Rattle.pw_base.specs.Seen.{sink_seen, Grew}
use Rattle.pw_text.specs.Puts.{PutsText}

module _ {S : Type 0} {K : Sink S} {a b : S} {waited waits text : List ℕ} (none : waited ≡ []) where
  pub sent_whole : waits ≡ [] → PutsText K a b waited waits text true → Grew (sink_seen K a) (sink_seen K b) text
  sent_whole empty p = λ tells.
      sym (append-nil (K.written b)) ∙ ap (λ l. K.written b ++ l) (sym empty) ∙ p.whole refl tells ∙ ap (λ l. K.written a ++ (l ++ text)) none

  pub sent_part : {done : Bool} → PutsText K a b waited waits text done → K.told a ≡ true → GrewByPart (K.written a) (K.written b) text
  sent_part p tells = subst (λ l. GrewByPart (K.written a) (K.written b) (l ++ text)) none (p.part tells)
