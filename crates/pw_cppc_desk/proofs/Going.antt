-- The steps that a call takes, one list after the other.
use Rattle.std.proofs.Common.{◌≡◌, ◌+◌, ℕ, zero, suc, [], ◌∷◌, ◌++◌, replicate, sym, refl, ap, ◌∙◌, subst, append_assoc, append-nil, arith}
use Rattle.pw_cppc.specs.declared.request.CppcRequest.{CppcRequest}
use Rattle.pw_cppc.specs.declared.entry.CppcEntry.{CppcEntry}
use Rattle.pw_books.specs.Steps.{Kind}
use Rattle.pw_cppc_desk.specs.Trying.{try_of}
use Rattle.pw_cppc_desk.specs.Tracks.{Keeping, more}
use Rattle.pw_cppc_desk.specs.Went.{InTurn, OneMore, WentOnce}
use Rattle.pw_cppc_desk.specs.declared.serving.CppcDone.{CppcDone}
use Rattle.pw_cppc_desk.specs.declared.serving.CppcDone.TheVariants.{Answer}

again : (x : Kind CppcEntry) (k : ℕ) → replicate k x ++ x ∷ [] ≡ replicate (k + 1) x
again x zero = refl
again x (suc k) = ap (λ l. x ∷ l) (again x k) ∙ ap (λ n. replicate n x) (let e : suc (k + 1) ≡ suc k + 1 = omega arith in e)

-- one more of the same
pub same_more : (x : Kind CppcEntry) (o o1 o2 : Keeping) (k : ℕ) → o1 ≡ more (replicate k x) o → OneMore o1 x o2 → o2 ≡ more (replicate (k + 1) x) o
same_more x o o1 o2 k is next =
    next ∙ (ap (more (x ∷ [])) is ∙ ap (λ l. (l, o.1)) (append_assoc o.0 (replicate k x) (x ∷ []) ∙ ap (λ l. o.0 ++ l) (again x k)))

-- none of the same
pub none_more : (x : Kind CppcEntry) (o : Keeping) → o ≡ more (replicate 0 x) o
none_more x o = ap (λ l. (l, o.1)) (sym (append-nil o.0))

-- whether it would have waited or not
pub once_of : (number : ℕ) (q : CppcRequest) (r : CppcDone) (o w : Keeping) → InTurn number q r o w → WentOnce number q (try_of r) o w
once_of number q (Answer reply) o w t = t
once_of number q r o w t = t

-- where the call was made of these
pub turn_by : (q : CppcRequest) (r : CppcDone) (n number : ℕ) (o0 o o1 o2 : Keeping) → n ≡ number → o ≡ o0 → o2 ≡ o1
    → InTurn n q r o0 o1 → InTurn number q r o o2
turn_by q r n number o0 o o1 o2 same before after w =
    subst (λ n. InTurn n q r o o2) same (subst (λ o. InTurn n q r o o2) (sym before) (subst (λ o2. InTurn n q r o0 o2) (sym after) w))
