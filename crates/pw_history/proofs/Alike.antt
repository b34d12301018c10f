-- What holds of a history holds of it whoever asked.
use Rattle.std.proofs.Common.{◌≡◌, List, [], ◌∷◌, map, refl, ap, ap₂, sym, ◌∙◌, subst}
use Rattle.std.specs.List.{AllByRecursion}
use Rattle.pw_kind.specs.History.{FaultFits, FaultIsLast, Faultless, FaultsFit, Legal, after_entry, entry_ops}
use Rattle.pw_history.specs.Wording.{Wording}
use Rattle.pw_history.specs.Asked.{Begins, IsRunOf, own, requests}
use Rattle.pw_history.specs.Telling.{EntriesFit}

module _ {P Q A E S : Type 0} {W : Wording P Q A E S} {plan : P} (fit : EntriesFit W plan) where
  -- # Entries that differ in their seats alone

  request-alike : (e f : E) → W.unseated e ≡ W.unseated f → W.kind.request e ≡ W.kind.request f
  request-alike e f same = sym (fit.same_request e) ∙ ap W.kind.request same ∙ fit.same_request f

  fault-alike : (e f : E) → W.unseated e ≡ W.unseated f → W.kind.fault e ≡ W.kind.fault f
  fault-alike e f same = sym (fit.same_fault e) ∙ ap W.kind.fault same ∙ fit.same_fault f

  pub ops-alike : (s : S) (e f : E) → W.unseated e ≡ W.unseated f → entry_ops W.kind plan s e ≡ entry_ops W.kind plan s f
  ops-alike s e f same = rw (request-alike e f same, fault-alike e f same) refl

  pub after-alike : (s : S) (e f : E) → W.unseated e ≡ W.unseated f → after_entry W.kind plan s e ≡ after_entry W.kind plan s f
  after-alike s e f same = rw (request-alike e f same, fault-alike e f same) refl

  entry_alike : (e f : E) → W.unseated e ≡ W.unseated f → W.kind.IsEntry plan e → W.kind.IsEntry plan f
  entry_alike e f same is = fit.unseated f (subst (W.kind.IsEntry plan) same (fit.seated e is))

  faultless_alike : (e f : E) → W.unseated e ≡ W.unseated f → W.kind.fault e ≡ 0 → W.kind.fault f ≡ 0
  faultless_alike e f same none = sym (fault-alike e f same) ∙ none

  fits_alike : (s : S) (e f : E) → W.unseated e ≡ W.unseated f → FaultFits W.kind plan s e → FaultFits W.kind plan s f
  fits_alike s e f same fits = rw (request-alike e f same, fault-alike e f same) at fits

  -- # Histories

  each_alike : (T : E → Type 0) → ((e f : E) → W.unseated e ≡ W.unseated f → T e → T f) → (es fs : List E) → map W.unseated es ≡ map W.unseated fs → AllByRecursion T es → AllByRecursion T fs
  each_alike T step [] [] same a = tt
  each_alike T step [] (f ∷ fs) same a = cc
  each_alike T step (e ∷ es) [] same a = tt
  each_alike T step (e ∷ es) (f ∷ fs) same a = (step e f (cc) a.0, each_alike T step es fs (cc) a.1)

  last_alike : (es fs : List E) → map W.unseated es ≡ map W.unseated fs → FaultIsLast W.kind es → FaultIsLast W.kind fs
  last_alike es [] same a = tt
  last_alike es (f ∷ []) same a = tt
  last_alike [] (f ∷ g ∷ fs) same a = cc
  last_alike (e ∷ []) (f ∷ g ∷ fs) same a = cc
  last_alike (e ∷ d ∷ es) (f ∷ g ∷ fs) same a = (faultless_alike e f (cc) a.0, last_alike (d ∷ es) (g ∷ fs) (cc) a.1)

  faults_alike : (s : S) (es fs : List E) → map W.unseated es ≡ map W.unseated fs → FaultsFit W.kind plan s es → FaultsFit W.kind plan s fs
  faults_alike s [] [] same a = tt
  faults_alike s [] (f ∷ fs) same a = cc
  faults_alike s (e ∷ es) [] same a = tt
  faults_alike s (e ∷ es) (f ∷ fs) same a =
      let first : W.unseated e ≡ W.unseated f = cc in
      (fits_alike s e f first a.0, subst (λ t. FaultsFit W.kind plan t fs) (after-alike s e f first) (faults_alike (after_entry W.kind plan s e) es fs (cc) a.1))

  pub faultless-alike : (es fs : List E) → map W.unseated es ≡ map W.unseated fs → Faultless W.kind es → Faultless W.kind fs
  faultless-alike es fs same none = each_alike (λ e. W.kind.fault e ≡ 0) faultless_alike es fs same none

  pub legal-alike : (es fs : List E) → map W.unseated es ≡ map W.unseated fs → Legal W.kind plan es → Legal W.kind plan fs
  legal-alike es fs same legal = record {
    well_formed = record {
      entries = each_alike (W.kind.IsEntry plan) entry_alike es fs same legal.well_formed.entries;
      fault = last_alike es fs same legal.well_formed.fault;
    };
    faults = faults_alike (W.kind.opening plan) es fs same legal.faults;
  }

  pub requests-alike : (es fs : List E) → map W.unseated es ≡ map W.unseated fs → requests W es ≡ requests W fs
  requests-alike [] [] same = refl
  requests-alike [] (f ∷ fs) same = cc
  requests-alike (e ∷ es) [] same = cc
  requests-alike (e ∷ es) (f ∷ fs) same = ap₂ (λ (q : Q) (qs : List Q). q ∷ qs) (request-alike e f (cc)) (requests-alike es fs (cc))

  pub run-alike : (asked : List Q) (es fs : List E) → map W.unseated es ≡ map W.unseated fs → IsRunOf W plan asked es → IsRunOf W plan asked fs
  run-alike asked es fs same run =
      let made = requests-alike es fs same in
      record {
        legal = legal-alike es fs same run.legal;
        begins = λ p lt. subst (λ qs. Begins (own W p qs) (own W p asked)) made (run.begins p lt);
        whole = λ none p lt. ap (own W p) (sym made) ∙ run.whole (faultless-alike fs es (sym same) none) p lt;
      }
