-- Texts that lead where their segments do, and one more.
use Rattle.std.proofs.Common.{◌≡◌, ◌∙◌, ℕ, Bool, true, false, List, ap, cond, refl, subst, sym, Vec, Global}
use Rattle.std.proofs.lemmas.Slice.Eq.{bytes_eq-Decides}
use Rattle.std.specs.Prelude.{bytes_eq, is_some, IfSome, Option, Some, None}
use Rattle.pw_text.specs.declared.path_index.PathIndex.{PathIndex}
use Rattle.pw_text.specs.declared.path_index.Spelled.{Spelled}
use Rattle.pw_text.specs.Forms.{name_of}
use Rattle.pw_text.specs.Looking.{AreSpelled, Leads, TextLeadsAlso, led_by, spelled_by}

-- where the segments lead that a text was taken apart into
pub taken_apart : (I : PathIndex) (text : List ℕ) (name : Vec ℕ Global) (ok : Bool) (found : Option ℕ) → ok ≡ true
    → name_of text ≡ cond ok (Some name.items) None → found ≡ led_by I.names name → Leads I text found
taken_apart I text name true found taken is to = record { name = name; is = is; to = sym to }
taken_apart I text name false found taken is to = absurd (cc)

-- where a text leads that leads somewhere
pub found_spelled : (I : PathIndex) (q : Spelled) (text : List ℕ) (found : Option ℕ) → AreSpelled I → q.bytes.items ≡ text → found ≡ spelled_by I.texts q
    → is_some found ≡ true → Leads I text found
found_spelled I q text None spelled items is some = absurd (cc)
found_spelled I q text (Some n) spelled items is some =
    subst (λ (t : List ℕ). Leads I t (Some n)) items (subst (λ (o : Option ℕ). IfSome o (λ m. Leads I q.bytes.items (Some m))) (sym is) (spelled q))

-- by an index with the same segments a text leads to the same
leads_too : (I J : PathIndex) (text : List ℕ) (found : Option ℕ) → J.names ≡ I.names → Leads I text found → Leads J text found
leads_too I J text found same leads = record { name = leads.name; is = leads.is; to = ap (λ m. led_by m leads.name) same ∙ leads.to }

leads_some : (I J : PathIndex) (text : List ℕ) (o : Option ℕ) → J.names ≡ I.names → IfSome o (λ m. Leads I text (Some m)) → IfSome o (λ m. Leads J text (Some m))
leads_some I J text None same leads = tt
leads_some I J text (Some m) same leads = leads_too I J text (Some m) same leads

-- a text that leads where its segments do may be added
pub spelled_too : (I J : PathIndex) (key text : List ℕ) (n : ℕ) → AreSpelled I → J.names ≡ I.names → key ≡ text → Leads I text (Some n)
    → TextLeadsAlso key n I.texts J.texts → AreSpelled J
spelled_too I J key text n spelled same is leads also = λ q. step q (bytes_eq key q.bytes.items) refl
  where
    step : (q : Spelled) (b : Bool) → bytes_eq key q.bytes.items ≡ b → IfSome (spelled_by J.texts q) (λ m. Leads J q.bytes.items (Some m))
    step q true e =
        let at : text ≡ q.bytes.items = sym is ∙ (bytes_eq-Decides key q.bytes.items).0 e in
        let to : spelled_by J.texts q ≡ Some n = also q ∙ ap (λ b. cond b (Some n) (spelled_by I.texts q)) e in
        subst (λ (o : Option ℕ). IfSome o (λ m. Leads J q.bytes.items (Some m))) (sym to)
        (subst (λ (t : List ℕ). Leads J t (Some n)) at (leads_too I J text (Some n) same leads))
    step q false e =
        let to : spelled_by J.texts q ≡ spelled_by I.texts q = also q ∙ ap (λ b. cond b (Some n) (spelled_by I.texts q)) e in
        subst (λ (o : Option ℕ). IfSome o (λ m. Leads J q.bytes.items (Some m))) (sym to) (leads_some I J q.bytes.items (spelled_by I.texts q) same (spelled q))
