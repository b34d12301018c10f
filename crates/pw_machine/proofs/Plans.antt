-- What the turn machine asks of the plan: its histories, its records and what requests take of them.
use Rattle.std.proofs.Common.{◌≡◌, ◌≢◌, ℕ, zero, suc, ◌+◌, ◌-◌, ◌<◌, ◌≤◌, ◌==◌, List, [], ◌∷◌, ◌++◌, map, length, take, get_or, Bool, true, false, cond, Option, Some, None, sym, refl, ap, ◌∙◌, subst, inl, inr, arith, append-nil, append_assoc, nat_lt, eq-eqb, ne_eqb}
use mathlib.Core.Logic.{dite}
use native.Mathlib.Decide.{ℕ_discrete}
use Rattle.std.specs.List.{AllByRecursion}
use Rattle.acpi_values.specs.declared.idle.IdleKind.{IdleKind}
use Rattle.acpi_values.specs.declared.idle.IdleKind.TheVariants.{Lpi, Cst, Absent}
use Rattle.pw_plan.specs.declared.plan.Plan.{Plan}
use Rattle.pw_plan.specs.declared.request.Request.{Request}
use Rattle.pw_plan.specs.declared.request.Request.TheVariants.{Idle, Wake, Perf, Throttle, PerfLimit, ThrottleLimit}
use Rattle.pw_plan.specs.Places.{container_at, cpu_at, group_of}
use Rattle.pw_plan.specs.Requests.{Has}
use Rattle.pw_kind.specs.History as histories
use Rattle.pw_model.specs.declared.entry.HistoryEntry.{HistoryEntry}
use Rattle.pw_model.specs.declared.reply.Reply.{Reply}
use Rattle.pw_model.specs.declared.state.State.{State}
use Rattle.pw_model.specs.States.{IsState}
use Rattle.pw_model.specs.Answers.{after, if_accepted}
use Rattle.pw_model.specs.Containers.{ancestors}
use Rattle.pw_model.specs.Refusals.{fixed_refusal}
use Rattle.pw_model.specs.History.{IsEntry, Legal, MayFollow, StatesRequest, after_entry, entry_ops, history_ops, replay, request_of}
use Rattle.pw_model.proofs.Joining.{history_ops-append, legal-empty, legal-more, replay-append}
use Rattle.pw_model.proofs.Staying.{replay_fits, request_has}
use Rattle.pw_model.specs.Locality.{SameParts}
use Rattle.pw_model.specs.Records.{IsRecord, Record, container, group, footprint, group_records, number_of, part_of, reach, record_at, record_count, records_among, records_by}
use Rattle.pw_model.specs.Routes.{numbers, route}
use Rattle.pw_model.proofs.Central.{is_local}
use Rattle.pw_model.proofs.Lines.{Among, Below, IsLine, ancestors_line, below, starts}
use Rattle.pw_model.proofs.Plans.{wired}
use Rattle.pw_model.proofs.Routes.{has_route}
use Rattle.pw_model.proofs.Ways.{has_way, numbers_tell, record_below, record_numbers}
use Rattle.pw_machine.specs.Turns.{StartsWith, count_turn, part_at, way}

-- # Histories

pub states_all : (P : Plan) (es : List HistoryEntry) → AllByRecursion (IsEntry P) es → AllByRecursion (StatesRequest P) es
states_all P [] a = tt
states_all P (e ∷ es) a = (a.0.states, states_all P es a.1)

pub legal_nil : (P : Plan) → Legal P []
legal_nil P = legal-empty P

pub legal_state : (P : Plan) (es : List HistoryEntry) → Legal P es → IsState P (replay P es)
legal_state P es l = replay_fits P es (states_all P es l.well_formed.entries)

pub legal_next : (P : Plan) (es : List HistoryEntry) (e : HistoryEntry) → Legal P es → MayFollow P es e → Legal P (es ++ e ∷ [])
legal_next P es e l h = legal-more P es e l h

pub follows_has : (P : Plan) (es : List HistoryEntry) (e : HistoryEntry) → MayFollow P es e → Has P (request_of e)
follows_has P es e h = request_has P e h.entry.states

pub ops_nil : (P : Plan) → history_ops P [] ≡ []
unfolding histories.history_ops
ops_nil P = refl

pub replay_snoc : (P : Plan) (es : List HistoryEntry) (e : HistoryEntry) → replay P (es ++ e ∷ []) ≡ after_entry P (replay P es) e
replay_snoc P es e = replay-append P es (e ∷ [])

pub ops_snoc : (P : Plan) (es : List HistoryEntry) (e : HistoryEntry)
    → history_ops P (es ++ e ∷ []) ≡ history_ops P es ++ entry_ops P (replay P es) e
ops_snoc P es e = history_ops-append P es (e ∷ []) ∙ ap (λ l. history_ops P es ++ l) (append-nil (entry_ops P (replay P es) e))

-- # Records

pub way_is : (P : Plan) (S : State) (q : Request) → way P S q ≡ numbers P (footprint P S q)
unfolding way
way_is P S q = refl

pub route_is : (P : Plan) (S : State) (q : Request) → route P S q ≡ way P S q ++ record_count P ∷ []
unfolding way
route_is P S q = refl

exist : (P : Plan) (S : State) (q : Request) → Has P q → AllByRecursion (IsRecord P) (footprint P S q)
exist P S q has = (has_route P q has).exist S

abbrev bit : Bool → ℕ
bit b = cond b 1 0

one : (a b : ℕ) → a ≡ b → bit (a == b) ≡ 1
one a b e = ap bit (eq-eqb a b e)

none-of : (a b : ℕ) → a ≢ b → bit (a == b) ≡ 0
none-of a b ne = ap bit (ne_eqb a b ne)

within : (P : Plan) (rs : List Record) (t : ℕ) → AllByRecursion (IsRecord P) rs → 0 < count_turn t (numbers P rs) → t < record_count P
within P [] t a more = absurd (omega (arith, more))
within P (r ∷ rs) t a more = dite (ℕ_discrete (number_of P r) t)
    (λ e. let low = record_below P r a.0 in omega (arith, low, e))
    (λ ne. within P rs t a.1 (omega (arith, more, none-of (number_of P r) t ne)))

-- a way has turns of records alone
pub way_within : (P : Plan) (S : State) (q : Request) (t : ℕ) → Has P q → 0 < count_turn t (way P S q) → t < record_count P
unfolding way
way_within P S q t has more = within P (footprint P S q) t (exist P S q has) more

contains_counts : (P : Plan) (r : Record) (rs : List Record) (k : ℕ) → k < length rs → get_or rs k r ≡ r
    → 0 < count_turn (number_of P r) (numbers P rs)
contains_counts P r [] k lt e = absurd (omega (arith, lt))
contains_counts P r (x ∷ rs) zero lt e =
    omega (arith, one (number_of P x) (number_of P r) (ap (number_of P) e))
contains_counts P r (x ∷ rs) (suc k) lt e = let later = contains_counts P r rs k (omega (arith, lt)) e in omega (arith, later)

-- a record off the way has the same part before and after
pub part_stays : (P : Plan) (S : State) (q : Request) (t : ℕ) → IsState P S → Has P q → t < record_count P → count_turn t (way P S q) ≡ 0
    → part_at P t (after P S q) ≡ part_at P t S
unfolding part_at way
part_stays P S q t s has low off =
    let n = record_numbers P t low in
    (is_local P q (wired P) has).rest S (record_at P t) s
    (λ c. let more = contains_counts P (record_at P t) (footprint P S q) c.0 c.1 c.2 in
    let there : 0 < count_turn t (numbers P (footprint P S q)) = subst (λ u. 0 < count_turn u (numbers P (footprint P S q))) n.1 more in omega (arith, there, off))

at_record : (P : Plan) (r : Record) (T : State) → IsRecord P r → part_at P (number_of P r) T ≡ part_of P T r
unfolding part_at
at_record P r T is = let n = record_numbers P (number_of P r) (record_below P r is) in ap (part_of P T) (numbers_tell P (record_at P (number_of P r)) r n.0 is n.1)

same_front : (P : Plan) (S T : State) (rs : List Record) (front rest : List ℕ) → AllByRecursion (IsRecord P) rs
    → numbers P rs ≡ front ++ rest → ((t : ℕ) → 0 < count_turn t front → part_at P t T ≡ part_at P t S)
    → SameParts P S T (take (length front) rs)
same_front P S T rs [] rest a e same = tt
same_front P S T [] (x ∷ xs) rest a e same = tt
same_front P S T (r ∷ rs) (x ∷ xs) rest a e same =
    let first : number_of P r ≡ x = cc in
    let later : numbers P rs ≡ xs ++ rest = cc in
    let here : 0 < count_turn (number_of P r) (x ∷ xs) = omega (arith, one x (number_of P r) (sym first)) in (
      sym (at_record P r S a.0) ∙ (sym (same (number_of P r) here) ∙ at_record P r T a.0),
      same_front P S T rs xs rest a.1 later (λ t more. same t (omega (arith, more))),
    )

front_taken : (P : Plan) (rs ss : List Record) (front rest : List ℕ) → numbers P rs ≡ front ++ rest
    → take (length front) rs ≡ take (length front) ss → StartsWith (numbers P ss) front
front_taken P rs ss [] rest e same = (numbers P ss, refl)
front_taken P [] ss (x ∷ xs) rest e same = absurd (cc)
front_taken P (r ∷ rs) [] (x ∷ xs) rest e same = absurd (cc)
front_taken P (r ∷ rs) (s ∷ ss) (x ∷ xs) rest e same =
    let first : number_of P r ≡ x = cc in
    let later : numbers P rs ≡ xs ++ rest = cc in
    let both : r ≡ s = cc in
    let tails : take (length xs) rs ≡ take (length xs) ss = cc in
    let more = front_taken P rs ss xs rest later tails in
    let is : number_of P s ≡ x = ap (number_of P) (sym both) ∙ first in
    (more.0, ap (λ l. number_of P s ∷ l) more.1 ∙ ap (λ n. n ∷ (xs ++ more.0)) is)

-- where another state gives the same parts to the first records of a way, these are the first records there
pub way_front : (P : Plan) (S T : State) (q : Request) (front : List ℕ) → IsState P S → IsState P T → Has P q
    → ((t : ℕ) → 0 < count_turn t front → part_at P t T ≡ part_at P t S) → StartsWith (way P S q) front
    → StartsWith (way P T q) front
unfolding way
way_front P S T q front s t has same begins =
    front_taken P (footprint P S q) (footprint P T q) front begins.0 begins.1
    ((is_local P q (wired P) has).first S T (length front) s t (same_front P S T (footprint P S q) front begins.0 (exist P S q has) begins.1 same))

-- # The order of turns

-- each later turn is lower
abbrev Falls : List ℕ → Type 0
Falls [] = Unit {0}
Falls (x ∷ xs) = ((y : ℕ) → 0 < count_turn y xs → y < x) × Falls xs

among_of : (P : Plan) (y : ℕ) (ns : List ℕ) → 0 < count_turn y (numbers P (map container ns)) → Among y ns
among_of P y [] more = absurd (omega (arith, more))
among_of P y (n ∷ ns) more = dite (ℕ_discrete y n) (λ e. inl e) (λ ne. inr (among_of P y ns (omega (arith, more, none-of n y (λ e. ne (sym e))))))

line_falls : (P : Plan) (from : Option ℕ) (ns : List ℕ) → IsLine P from ns → Below (length P.containers) from
    → Falls (numbers P (map container ns))
line_falls P from [] line w = tt
line_falls P from (n ∷ ns) line w =
    let lt = w n line.0 in
    let up : Below n (container_at P n).parent = λ j e. P.sound.tree.falls n j lt e in
    let all : Below (length P.containers) (container_at P n).parent = λ j e. let a = up j e in omega (arith, a, lt) in
    (λ y more. below P n (container_at P n).parent ns line.1 up all y (among_of P y ns more), line_falls P (container_at P n).parent ns line.1 all)

one_falls : (x : ℕ) → Falls (x ∷ [])
one_falls x = (λ y more. absurd (omega (arith, more)), tt)

group_falls : (P : Plan) (p : ℕ) → Falls (numbers P (group_records P p))
group_falls P p = step (nat_lt (group_of P p) (length P.groups))
  where
    step : (b : Bool) → Falls (numbers P (cond b (group (group_of P p) ∷ []) []))
    step true = one_falls (number_of P (group (group_of P p)))
    step false = tt

vote_falls : (P : Plan) (p : ℕ) → p < length P.cpus → (k : IdleKind)
    → Falls (numbers P (records_by k (map container (ancestors P p)) (group_records P p)))
vote_falls P p lt Lpi = line_falls P (cpu_at P p).parent (ancestors P p) (ancestors_line P p lt) (starts P p lt)
vote_falls P p lt Cst = group_falls P p
vote_falls P p lt Absent = tt

all_falls : (P : Plan) (q : Request) → Has P q → Falls (numbers P (records_among P (ancestors P) q))
all_falls P (Idle p s t) has = vote_falls P p has (cpu_at P p).idle.kind
all_falls P (Wake p) has = vote_falls P p has (cpu_at P p).idle.kind
all_falls P (Perf p i) has = one_falls _
all_falls P (Throttle p i) has = one_falls _
all_falls P (PerfLimit p n) has = one_falls _
all_falls P (ThrottleLimit p n) has = one_falls _

reach_falls : (P : Plan) (q : Request) → Has P q → Falls (numbers P (reach P q))
unfolding reach
reach_falls P q has = step (fixed_refusal P q)
  where
    step : (r : Option Reply) → Falls (numbers P (if_accepted r (λ reply. []) (records_among P (ancestors P) q)))
    step None = all_falls P q has
    step (Some reply) = tt

count_first : (P : Plan) (t k : ℕ) (rs : List Record) → count_turn t (numbers P (take k rs)) ≤ count_turn t (numbers P rs)
count_first P t zero rs = omega arith
count_first P t (suc k) [] = omega arith
count_first P t (suc k) (r ∷ rs) = let le = count_first P t k rs in omega (arith, le)

first_falls : (P : Plan) (k : ℕ) (rs : List Record) → Falls (numbers P rs) → Falls (numbers P (take k rs))
first_falls P zero rs f = tt
first_falls P (suc k) [] f = tt
first_falls P (suc k) (r ∷ rs) f = (λ y more. f.0 y (let le = count_first P y k rs in omega (arith, le, more)), first_falls P k rs f.1)

way_falls : (P : Plan) (S : State) (q : Request) → Has P q → Falls (way P S q)
unfolding way
way_falls P S q has = let b = (has_way P q has).begins S in subst (λ rs. Falls (numbers P rs)) (sym b.1) (first_falls P b.0 (reach P q) (reach_falls P q has))

-- a request takes no turns but those that it can take
pub way_reached : (P : Plan) (S : State) (q : Request) (t : ℕ) → Has P q → 0 < count_turn t (way P S q)
    → 0 < count_turn t (numbers P (reach P q))
unfolding way
way_reached P S q t has more =
    let b = (has_way P q has).begins S in let le = count_first P t b.0 (reach P q) in
    let there : 0 < count_turn t (numbers P (take b.0 (reach P q))) = subst (λ rs. 0 < count_turn t (numbers P rs)) b.1 more in omega (arith, le, there)

pub count_turn-append : (t : ℕ) (xs ys : List ℕ) → count_turn t (xs ++ ys) ≡ count_turn t xs + count_turn t ys
count_turn-append t [] ys = omega arith
count_turn-append t (x ∷ xs) ys = omega (arith, count_turn-append t xs ys)

falls_before : (l front rest : List ℕ) (t r : ℕ) → Falls l → l ≡ (front ++ t ∷ []) ++ rest → 0 < count_turn r front → t < r
falls_before l [] rest t r f e more = absurd (omega (arith, more))
falls_before [] (x ∷ xs) rest t r f e more = absurd (cc)
falls_before (y ∷ ys) (x ∷ xs) rest t r f e more =
    let first : y ≡ x = cc in
    let later : ys ≡ (xs ++ t ∷ []) ++ rest = cc in
    dite (ℕ_discrete x r)
    (λ same.
    let there : 0 < count_turn t ys = subst (λ l. 0 < count_turn t l) (sym later) (omega (arith, count_turn-append t (xs ++ t ∷ []) rest, count_turn-append t xs (t ∷ []), one t t refl)) in
    let lt = f.0 t there in omega (arith, lt, first, same))
    (λ ne. falls_before ys xs rest t r f.1 later (omega (arith, more, none-of x r ne)))

falls_apart : (l front rest : List ℕ) (t : ℕ) → Falls l → l ≡ front ++ rest → 0 < count_turn t front → 0 < count_turn t rest → ⊥
falls_apart l [] rest t f e more after = omega (arith, more)
falls_apart [] (x ∷ xs) rest t f e more after = absurd (cc)
falls_apart (y ∷ ys) (x ∷ xs) rest t f e more after =
    let first : y ≡ x = cc in
    let later : ys ≡ xs ++ rest = cc in
    dite (ℕ_discrete x t)
    (λ same.
    let there : 0 < count_turn t ys = subst (λ l. 0 < count_turn t l) (sym later) (omega (arith, count_turn-append t xs rest, after)) in
    let lt = f.0 t there in omega (arith, lt, first, same))
    (λ ne. falls_apart ys xs rest t f.1 later (omega (arith, more, none-of x t ne)) after)

-- what is still ahead on a way isn't behind
pub way_apart : (P : Plan) (S : State) (q : Request) (front rest : List ℕ) (t : ℕ) → Has P q → way P S q ≡ front ++ rest
    → 0 < count_turn t rest → count_turn t front ≡ 0
way_apart P S q front rest t has e after = dite (ℕ_discrete (count_turn t front) 0) (λ z. z) (λ nz. absurd (falls_apart (way P S q) front rest t (way_falls P S q has) e (omega (arith, nz)) after))

-- the place of a turn in the one order in which requests take turns
pub height : Plan → ℕ → ℕ
height P t = record_count P - t

-- above all heights
pub tallest : Plan → ℕ
tallest P = record_count P + 1

-- the turns of a way come in the one order
pub way_rises : (P : Plan) (S : State) (q : Request) (front : List ℕ) (t : ℕ) → Has P q → StartsWith (way P S q) (front ++ t ∷ []) → (r : ℕ)
    → 0 < count_turn r front → height P r < height P t
unfolding height
way_rises P S q front t has begins r more =
    let lt = falls_before (way P S q) front begins.0 t r (way_falls P S q has) begins.1 more in
    let low = way_within P S q t has (subst (λ l. 0 < count_turn t l) (sym begins.1) (omega (arith, count_turn-append t (front ++ t ∷ []) begins.0, count_turn-append t front (t ∷ []), one t t refl)))
    in
    omega (arith, lt, low)

pub height_below : (P : Plan) (t : ℕ) → height P t < tallest P
unfolding height tallest
height_below P t = omega arith

-- # The journal's turn comes last

snoc_front : (l front : List ℕ) (t last : ℕ) → t ≢ last → StartsWith (l ++ last ∷ []) (front ++ t ∷ []) → StartsWith l (front ++ t ∷ [])
snoc_front [] [] t last ne b = let e = b.1 in absurd (ne (cc))
snoc_front [] (x ∷ []) t last ne b = let e = b.1 in absurd (cc)
snoc_front [] (x ∷ y ∷ xs) t last ne b = let e = b.1 in absurd (cc)
snoc_front (y ∷ ys) [] t last ne b = let e = b.1 in let same : y ≡ t = cc in (ys, ap (λ n. n ∷ ys) same)
snoc_front (y ∷ ys) (x ∷ xs) t last ne b =
    let e = b.1 in
    let first : y ≡ x = cc in
    let later : ys ++ last ∷ [] ≡ (xs ++ t ∷ []) ++ b.0 = cc in
    let more = snoc_front ys xs t last ne (b.0, later) in
    (more.0, ap (λ l. y ∷ l) more.1 ∙ ap (λ n. n ∷ ((xs ++ t ∷ []) ++ more.0)) first)

whole_front : (l front : List ℕ) (last : ℕ) → count_turn last l ≡ 0 → StartsWith (l ++ last ∷ []) (front ++ last ∷ []) → front ≡ l
whole_front [] [] last z b = refl
whole_front [] (x ∷ []) last z b = let e = b.1 in absurd (cc)
whole_front [] (x ∷ y ∷ xs) last z b = let e = b.1 in absurd (cc)
whole_front (y ∷ ys) [] last z b = let e = b.1 in let same : y ≡ last = cc in absurd (omega (arith, z, one y last same))
whole_front (y ∷ ys) (x ∷ xs) last z b =
    let e = b.1 in
    let first : y ≡ x = cc in
    let later : ys ++ last ∷ [] ≡ (xs ++ last ∷ []) ++ b.0 = cc in
    let more = whole_front ys xs last (omega (arith, z)) (b.0, later) in
    ap (λ n. n ∷ xs) (sym first) ∙ ap (λ l. y ∷ l) more

-- what comes next on a route is a record's turn, which is next on the way, or the journal's, with the whole way held
pub next_record : (P : Plan) (S : State) (q : Request) (front : List ℕ) (t : ℕ) → t < record_count P
    → StartsWith (route P S q) (front ++ t ∷ []) → StartsWith (way P S q) (front ++ t ∷ [])
unfolding way
next_record P S q front t low b = snoc_front (numbers P (footprint P S q)) front t (record_count P) (λ e. omega (arith, low, e)) b

pub next_journal : (P : Plan) (S : State) (q : Request) (front : List ℕ) → Has P q → StartsWith (route P S q) (front ++ record_count P ∷ [])
    → front ≡ way P S q
unfolding way
next_journal P S q front has b = whole_front (numbers P (footprint P S q)) front (record_count P)
    (dite (ℕ_discrete (count_turn (record_count P) (numbers P (footprint P S q))) 0) (λ z. z) (λ nz. absurd (let low = within P (footprint P S q) (record_count P) (exist P S q has) (omega (arith, nz))
    in omega (arith, low)))) b

pub on_route : (P : Plan) (S : State) (q : Request) (front : List ℕ) → StartsWith (way P S q) front → StartsWith (route P S q) front
unfolding way
on_route P S q front b = (b.0 ++ record_count P ∷ [], ap (λ l. l ++ record_count P ∷ []) b.1 ∙ append_assoc front b.0 (record_count P ∷ []))

pub ends_route : (P : Plan) (S : State) (q : Request) (front : List ℕ) → front ≡ way P S q
    → StartsWith (route P S q) (front ++ record_count P ∷ [])
unfolding way
ends_route P S q front e = ([], ap (λ l. l ++ record_count P ∷ []) (sym e) ∙ sym (append-nil (front ++ record_count P ∷ [])))

-- # The first turn of a way

one_taken : (P : Plan) (rs ss : List Record) (t : ℕ) (rest : List ℕ) → numbers P rs ≡ t ∷ rest → take 1 rs ≡ take 1 ss
    → StartsWith (numbers P ss) (t ∷ [])
one_taken P [] ss t rest e same = absurd (cc)
one_taken P (r ∷ rs) [] t rest e same = absurd (cc)
one_taken P (r ∷ rs) (s ∷ ss) t rest e same =
    let first : number_of P r ≡ t = cc in
    let both : r ≡ s = cc in
    (numbers P ss, ap (λ n. n ∷ numbers P ss) (ap (number_of P) (sym both) ∙ first))

-- it is the same in each state
pub first_stays : (P : Plan) (S T : State) (q : Request) (t : ℕ) → IsState P S → IsState P T → Has P q → StartsWith (way P S q) (t ∷ [])
    → StartsWith (way P T q) (t ∷ [])
unfolding way
first_stays P S T q t s s2 has begins = one_taken P (footprint P S q) (footprint P T q) t begins.0 begins.1 ((is_local P q (wired P) has).prefix S T 0 s s2 tt)
