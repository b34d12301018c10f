-- What a whole text shows.
use Rattle.std.proofs.Common.{◌≡◌, ◌<◌, ◌∙◌, ◌++◌, ℕ, List, [], Option, Some, None, length, refl, ap, sym, subst, append-nil}
use Rattle.pw_text.specs.Lines.{text_of}
use Rattle.pw_audit.specs.declared.form.Form.{Form}
use Rattle.pw_audit.specs.inner.Stopping.{OpeningRead, known}
use Rattle.pw_audit.proofs.Knowing.{shows_to}
use Rattle.pw_base.proofs.Facts.{empty}
use Rattle.pw_history.specs.Wording.{Wording}
use Rattle.pw_audit.specs.Tracing.{ShowsAs}

module _ {Plan Request Reply Entry State : Type 0} (W : Wording Plan Request Reply Entry State) where
  pub shows_opening : (form : Form) (plan : Plan) (qs : List Request) (text left : List ℕ) (o : Option ℕ) (k before : ℕ) (entries : List Entry) → o ≡ Some k → k < length (W.opening_ops plan)
      → OpeningRead W form plan (Some k) text before left → length left ≡ 0 → entries ≡ [] → ShowsAs W form plan qs text o entries
  shows_opening form plan qs text left o k before entries fault lt read none nothing =
      subst (λ (f : Option ℕ). ShowsAs W form plan qs text f entries) (sym fault)
      (subst (λ (es : List Entry). ShowsAs W form plan qs text (Some k) es) (sym nothing)
      (record {
        lawful = (lt, refl);
        is = record {
          first = read.first;
          later = [];
          opens = read.opens;
          tells = refl;
          is = read.is ∙ ap (λ (l : List ℕ). text_of read.first ++ l) (empty left none) ∙ append-nil (text_of read.first) ∙ ap (λ (ls : List (List ℕ)). text_of ls) (sym (append-nil read.first));
        };
        seats = tt;
      }))

  pub shows_entries : (form : Form) (plan : Plan) (qs : List Request) (text : List ℕ) (o : Option ℕ) (entries : List Entry) → o ≡ None → ShowsAs W form plan (known W plan qs) text None entries
      → ShowsAs W form plan qs text o entries
  shows_entries form plan qs text o entries none shows =
      subst (λ (f : Option ℕ). ShowsAs W form plan qs text f entries) (sym none) (shows_to W plan form qs text None entries shows)
