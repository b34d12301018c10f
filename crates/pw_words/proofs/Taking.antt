-- Words that `clap` states that it takes give none of its errors: where each test of a parse passes, its step has no fault.
use Rattle.std.proofs.Common.{◌≡◌, ◌∙◌, ◌∷◌, ◌&&◌, ◌||◌, ◌==◌, ◌≤◌, ℕ, zero, suc, arith, Bool, cond, true, false, not, is_some, refl, sym, List, []}
use Rattle.std.proofs.Common.{length, drop, Option, Some, None, true≢false, eq-eqb, eqb-true, nat_le}
use Rattle.std.specs.Prelude.{codes, encode_utf8, find, nat_lt, slice_get}
use Rattle.std.specs.List.{list_all, list_any}
use Rattle.std.specs.Option.{option_map_or}
use Rattle.std.specs.Str.{bytes_eq, chars}
use Rattle.std.proofs.lemmas.Bool.{and_parts, false_from_ne_true, le-ltb, leb-true, ltb-true, not-true}
use Rattle.clap.specs.Facts.{explicit_source, unwrap_or_range}
use Rattle.clap.specs.Faults.{action_fault, bundle_fault, bundle_step_fault, built_fault, check_fault, count_fault, default_fault, defaults_fault}
use Rattle.clap.specs.Faults.{entered_fault, fault_of, flag_word_fault, flags_fault, given_default_fault, level_fault, long_fault, option_fault}
use Rattle.clap.specs.Faults.{other_fault, positional_fault, react_fault, set_fault, settle_fault, short_fault, step_fault, stray_fault}
use Rattle.clap.specs.Faults.{turn_fault, use_fault, values_fault, walk_fault, word_fault}
use Rattle.clap.specs.Kinds.{Kinds, or_else, range_kinds, request_kinds}
use Rattle.clap.specs.Lexer.{long_of, short_of}
use Rattle.clap.specs.Simple.{App, Shape, argument_words, built, entered, label_of, names_of}
use Rattle.clap.specs.Takes.{action_passes, bundle_passes, bundle_step_passes, built_takes, count_passes, default_passes, entered_passes, flag_word_passes}
use Rattle.clap.specs.Takes.{flags_pass, is_given, is_valid, level_passes, long_passes, option_passes, other_passes, positional_passes, react_passes}
use Rattle.clap.specs.Takes.{set_passes, settle_passes, short_passes, step_passes, takes, turn_passes, use_passes, value_passes, values_pass, walk_passes, word_passes}
use Rattle.clap.specs.Values.{is_request}
use Rattle.clap.specs.Walk.{Held, Names, Row, Rule, Step, Text, Waiting, Walk, action_of, answers_to, arg_by_id, arg_by_index, arg_by_long, arg_by_short}
use Rattle.clap.specs.Walk.{attached_value, finished, has_row, is_empty, is_pending, most_values, next, nothing_held, reacted, settled}
use Rattle.clap.specs.Walk.{subcommand, subcommand_met, takes_several, takes_values, trailing, value, values_or_missing, walk, walk_from, walked, with_default, word_met}
use Rattle.clap.specs.declared.builder.action.ArgAction.{ArgAction}
use Rattle.clap.specs.declared.builder.action.ArgAction.TheVariants.{Append, Count, Help, HelpLong, HelpShort, Set, SetFalse, SetTrue, Version}
use Rattle.clap.specs.declared.error.kind.ErrorKind.TheVariants as kind
use Rattle.clap.proofs.FaultLemmas.{past}

never : {A : Type 0} → false ≡ true → A
never e = absurd (true≢false (sym e))

-- # One use of an argument

values_taken : (a : Rule) (vs : List Text) → values_pass a vs ≡ true → values_fault a vs ≡ []
values_taken a [] e = refl
values_taken a (v ∷ vs) e = let p = and_parts (value_passes a v) (values_pass a vs) e in rw p.0 (values_taken a vs p.1)

count_taken : (a : Rule) (vs : List Text) (rows : List Row) → count_passes a vs rows ≡ true → count_fault a vs rows ≡ []
count_taken a [] rows e = rw e refl
count_taken a (v ∷ vs) rows e = values_taken a (v ∷ vs) e

set_taken : (again : Bool) (a : Rule) (vs : List Text) (rows : List Row) → set_passes again a vs rows ≡ true → set_fault again a vs rows ≡ []
set_taken again a vs rows e =
    let p = and_parts (not (has_row a.id rows) || again) (values_pass a vs) e in
    past _ _ (once (has_row a.id rows) again p.0) ∙ values_taken a vs p.1
  where
    once : (b again : Bool) → (not b || again) ≡ true → cond (b && not again) (kind.ArgumentConflict ∷ []) [] ≡ []
    once true true e = refl
    once true false e = never e
    once false again e = refl

action_taken : (x : ArgAction) (again : Bool) (a : Rule) (vs : List Text) (rows : List Row) → action_passes x again a vs rows ≡ true → action_fault x again a vs rows ≡ []
action_taken Set again a vs rows e = set_taken again a vs rows e
action_taken SetTrue again a vs rows e = set_taken again a vs rows e
action_taken SetFalse again a vs rows e = set_taken again a vs rows e
action_taken Append again a vs rows e = values_taken a vs e
action_taken Count again a vs rows e = count_taken a vs rows e
action_taken Help again a vs rows e = never e
action_taken HelpShort again a vs rows e = never e
action_taken HelpLong again a vs rows e = never e
action_taken Version again a vs rows e = never e

-- as many values as are wanted
range_taken : (least most n : ℕ) → least ≤ n → n ≤ most → range_kinds least most n ≡ []
range_taken least most n low high =
    let some : (nat_lt 0 least && (n == 0)) ≡ false = false_from_ne_true _ (λ e. (let p = and_parts (nat_lt 0 least) (n == 0) e in
    let a = ltb-true 0 least p.0 in let b = eqb-true n 0 p.1 in absurd (omega arith))) in
    let least_is : nat_lt n least ≡ false = le-ltb n least low in
    let most_is : nat_lt most n ≡ false = le-ltb most n high in
    rw some (go (least == most) refl least_is most_is)
  where
    go : (b : Bool) → (least == most) ≡ b → nat_lt n least ≡ false → nat_lt most n ≡ false
        → cond b (cond (least == n) [] (kind.WrongNumberOfValues ∷ []))
        (cond (nat_lt n least) (kind.TooFewValues ∷ []) (cond (nat_lt most n) (kind.TooManyValues ∷ []) [])) ≡ []
    go true e f g =
        let same : least ≡ most = eqb-true least most e in
        let all : (least == n) ≡ true = eq-eqb least n (omega arith) in
        rw all refl
    go false e f g = rw (f, g) refl

use_taken : (again : Bool) (a : Rule) (vs : List Text) (rows : List Row) → use_passes again a vs rows ≡ true → use_fault again a vs rows ≡ []
use_taken again a vs rows e =
    let least = (unwrap_or_range a.range).start_inclusive in
    let p = and_parts (nat_le least (length vs)) _ e in
    let q = and_parts (nat_le (length vs) (most_values a)) _ p.1 in
    past _ _ (range_taken least (most_values a) (length vs) (leb-true least (length vs) p.0) (leb-true (length vs) (most_values a) q.0))
    ∙ action_taken (action_of a) again a (values_or_missing a vs) rows q.1

-- # One word

module _ (c : List Rule) (again : Bool) where
  settle_taken : (h : Held) → settle_passes c again h ≡ true → settle_fault c again h ≡ []
  settle_taken h e = go h.pending e
    where
      by_id : (vs : List Text) (o : Option Rule) → option_map_or (λ a. use_passes again a vs h.rows) o true ≡ true
          → option_map_or (λ a. use_fault again a vs h.rows) o [] ≡ []
      by_id vs None e = refl
      by_id vs (Some a) e = use_taken again a vs h.rows e

      go : (p : Option (Text × List Text)) → option_map_or (λ p. option_map_or (λ a. use_passes again a p.1 h.rows) (arg_by_id c p.0) true) p true ≡ true
          → option_map_or (λ p. option_map_or (λ a. use_fault again a p.1 h.rows) (arg_by_id c p.0) []) p [] ≡ []
      go None e = refl
      go (Some p) e = by_id p.1 (arg_by_id c p.0) e

  react_taken : (a : Rule) (vs : List Text) (h : Held) → react_passes c again a vs h ≡ true → react_fault c again a vs h ≡ []
  react_taken a vs h e =
      let p = and_parts (settle_passes c again h) (use_passes again a vs (settled c h).rows) e in
      past _ _ (settle_taken h p.0) ∙ use_taken again a vs (settled c h).rows p.1

  option_taken : (a : Rule) (v : Option Text) (h : Held) → option_passes c again a v h ≡ true → option_fault c again a v h ≡ []
  option_taken a (Some v) h e = react_taken a (v ∷ []) h e
  option_taken a None h e = settle_taken h e

  long_taken : (o : Option Rule) (v : Option Text) (h : Held) → long_passes c again o v h ≡ true → long_fault c again o v h ≡ []
  long_taken None v h e = never e
  long_taken (Some a) v h e = go (takes_values a) v e
    where
      go : (b : Bool) (v : Option Text) → cond b (option_passes c again a v h) (not (is_some v) && react_passes c again a [] h) ≡ true
          → cond b (option_fault c again a v h) (cond (is_some v) (kind.TooManyValues ∷ []) (react_fault c again a [] h)) ≡ []
      go true v e = option_taken a v h e
      go false (Some x) e = never e
      go false None e = react_taken a [] h e

  short_taken : (o : Option Rule) (rest : Text) (h : Held) (then : Held → Bool) (fault : Held → Kinds) → ((h : Held) → then h ≡ true → fault h ≡ [])
      → short_passes c again o rest h then ≡ true → short_fault c again o rest h fault ≡ []
  short_taken None rest h then fault later e = never e
  short_taken (Some a) rest h then fault later e = go (takes_values a) e
    where
      go : (b : Bool) → cond b (option_passes c again a (attached_value rest) h) (react_passes c again a [] h && then (reacted c a [] h)) ≡ true
          → cond b (option_fault c again a (attached_value rest) h) (or_else (react_fault c again a [] h) (fault (reacted c a [] h))) ≡ []
      go true e = option_taken a (attached_value rest) h e
      go false e =
          let p = and_parts (react_passes c again a [] h) (then (reacted c a [] h)) e in
          past _ _ (react_taken a [] h p.0) ∙ later (reacted c a [] h) p.1

  flags_taken : (k : ℕ) (flags : Text) (skip : ℕ) (h : Held) → flags_pass c again k flags skip h ≡ true → flags_fault c again k flags skip h ≡ []
  unfolding flags_pass flags_fault
  flags_taken zero flags skip h e = refl
  flags_taken (suc k) flags skip h e = go (flags_taken k) (slice_get (chars flags) 0) skip e
    where
      go : ((flags : Text) (skip : ℕ) (h : Held) → flags_pass c again k flags skip h ≡ true → flags_fault c again k flags skip h ≡ [])
          → (o : Option ℕ) (skip : ℕ) → bundle_step_passes c again o flags skip h (flags_pass c again k) ≡ true
          → bundle_step_fault c again o flags skip h (flags_fault c again k) ≡ []
      go later None skip e = refl
      go later (Some x) zero e =
          let rest = drop (length (encode_utf8 x)) flags in
          short_taken (arg_by_short c x) rest h (flags_pass c again k rest 0) (flags_fault c again k rest 0) (later rest 0) e
      go later (Some x) (suc skip) e = later (drop (length (encode_utf8 x)) flags) skip h e

  flag_word_taken : (o : Option (Text × Option Text)) (word : Text) (h : Held) → flag_word_passes c again o word h ≡ true → flag_word_fault c again o word h ≡ []
  flag_word_taken (Some p) word h e = long_taken (arg_by_long c p.0) p.1 h e
  flag_word_taken None word h e = go (short_of word) e
    where
      go : (o : Option Text) → option_map_or (λ flags. bundle_passes c again flags h) o true ≡ true → option_map_or (λ flags. bundle_fault c again flags h) o [] ≡ []
      go None e = refl
      go (Some flags) e = flags_taken (length flags) flags h.skip (record h { skip = 0 }) e

  positional_taken : (a : Rule) (h : Held) → positional_passes c again a h ≡ true → positional_fault c again a h ≡ []
  positional_taken a h e = go (is_pending a h.pending && takes_several a) e
    where
      go : (b : Bool) → (b || settle_passes c again h) ≡ true → cond b [] (settle_fault c again h) ≡ []
      go true e = refl
      go false e = settle_taken h e

module _ (s : Shape) where
  other_taken : (o : Option Text) (word : Text) (h : Held) → other_passes s o word h ≡ true → other_fault s o word h ≡ []
  other_taken (Some name) word h e = go (bytes_eq name (codes "help")) s.disable_help_subcommand e
    where
      go : (a b : Bool) → (not a || b) ≡ true → cond (a && not b) (kind.DisplayHelp ∷ kind.InvalidSubcommand ∷ []) [] ≡ []
      go true true e = refl
      go true false e = never e
      go false b e = refl
  other_taken None word h e = step (bytes_eq word (45 ∷ 45 ∷ [])) e
    where
      step : (b : Bool) → (b || flag_word_passes s.rules s.args_override_self (long_of word) word h) ≡ true
          → cond b [] (flag_word_fault s.rules s.args_override_self (long_of word) word h) ≡ []
      step true e = refl
      step false e = flag_word_taken s.rules s.args_override_self (long_of word) word h e

  word_taken : (names : Names) (is_trailing : Bool) (waiting : Waiting) (word : Text) (h : Held) → word_passes s names is_trailing waiting word h ≡ true
      → word_fault s names is_trailing waiting word h ≡ []
  word_taken names true waiting word h e = refl
  word_taken names false waiting word h e = other_taken (subcommand_met names waiting word) word h e

  step_taken : (position : ℕ) (h : Held) (step : Step) → step_passes s position h step ≡ true → step_fault s position h step ≡ []
  step_taken position h (next waiting) e = refl
  step_taken position h (trailing p) e = refl
  step_taken position h (subcommand name) e = refl
  step_taken position h value e = go (arg_by_index s.rules position) e
    where
      go : (o : Option Rule) → option_map_or (λ a. positional_passes s.rules s.args_override_self a h) o false ≡ true
          → option_map_or (λ a. positional_fault s.rules s.args_override_self a h) o (stray_fault s) ≡ []
      go None e = never e
      go (Some a) e = positional_taken s.rules s.args_override_self a h e

  -- what a word is met as
  abbrev met : Names → Walk → Text → Held × Step
  met names w word = word_met s.rules names w.is_trailing w.waiting w.position word w.held

  turn_taken : (names : Names) (w : Walk) (word : Text) → turn_passes s names w word ≡ true → turn_fault s names w word ≡ []
  turn_taken names w word e = go (is_some w.stopped) e
    where
      go : (b : Bool) → (b || (word_passes s names w.is_trailing w.waiting word w.held && step_passes s w.position (met names w word).0 (met names w word).1)) ≡ true
          → cond b [] (or_else (word_fault s names w.is_trailing w.waiting word w.held) (step_fault s w.position (met names w word).0 (met names w word).1)) ≡ []
      go true e = refl
      go false e =
          let p = and_parts (word_passes s names w.is_trailing w.waiting word w.held) (step_passes s w.position (met names w word).0 (met names w word).1) e in
          past _ _ (word_taken names w.is_trailing w.waiting word w.held p.0) ∙ step_taken w.position (met names w word).0 (met names w word).1 p.1

  walk_taken : (names : Names) (w : Walk) (words : List Text) → walk_passes s names w words ≡ true → walk_fault s names w words ≡ []
  unfolding walk_passes walk_fault
  walk_taken names w [] e = refl
  walk_taken names w (word ∷ rest) e =
      let p = and_parts (turn_passes s names w word) (walk_passes s names (walked s.rules names w word) rest) e in
      past _ _ (turn_taken names w word p.0) ∙ walk_taken names (walked s.rules names w word) rest p.1

-- # After the words

not_asked : (x : ArgAction) → is_request x ≡ false → request_kinds x ≡ []
not_asked Set e = refl
not_asked Append e = refl
not_asked SetTrue e = refl
not_asked SetFalse e = refl
not_asked Count e = refl
not_asked Help e = never (sym e)
not_asked HelpShort e = never (sym e)
not_asked HelpLong e = never (sym e)
not_asked Version e = never (sym e)

default_taken : (rows : List Row) (a : Rule) → default_passes a ≡ true → default_fault rows a ≡ []
default_taken rows a e = go (has_row a.id rows) (is_empty a.defaults) e
  where
    go : (x y : Bool) → (y || (not (is_request (action_of a)) && values_pass a a.defaults)) ≡ true → cond (x || y) [] (given_default_fault a a.defaults) ≡ []
    go true y e = refl
    go false true e = refl
    go false false e =
        let p = and_parts (not (is_request (action_of a))) (values_pass a a.defaults) e in
        past _ _ (not_asked (action_of a) (not-true (is_request (action_of a)) p.0)) ∙ values_taken a a.defaults p.1

defaults_taken : (rows : List Row) (rules : List Rule) → list_all default_passes rules ≡ true → defaults_fault rows rules ≡ []
unfolding defaults_fault
defaults_taken rows [] e = refl
defaults_taken rows (a ∷ rest) e =
    let p = and_parts (default_passes a) (list_all default_passes rest) e in
    past _ _ (default_taken rows a p.0) ∙ defaults_taken (with_default rows a) rest p.1

none_wanted : (rows : List Row) (rules : List Rule) → list_all (λ a. not a.required || is_given a.id rows) rules ≡ true
    → list_any (λ a. a.required && not (is_given a.id rows)) rules ≡ false
none_wanted rows [] e = refl
none_wanted rows (a ∷ rest) e =
    let p = and_parts (not a.required || is_given a.id rows) (list_all (λ a. not a.required || is_given a.id rows) rest) e in
    go a.required (is_given a.id rows) p.0 (none_wanted rows rest p.1)
  where
    go : (b c : Bool) → (not b || c) ≡ true → list_any (λ a. a.required && not (is_given a.id rows)) rest ≡ false
        → ((b && not c) || list_any (λ a. a.required && not (is_given a.id rows)) rest) ≡ false
    go true true e later = later
    go true false e later = never e
    go false c e later = later

check_taken : (s : Shape) (rows : List Row) (has : Bool) → is_valid s rows has ≡ true → check_fault s rows has ≡ []
check_taken s rows has e =
    let any = list_any (λ r. explicit_source r.source) rows in
    let p = and_parts (not s.arg_required_else_help || (has || any)) _ e in
    let q = and_parts (not s.subcommand_required || has) _ p.1 in
    let r = and_parts (list_all (λ a. a.is_free) s.rules) _ q.1 in
    let help = no_help has s.arg_required_else_help any p.0 in
    let sub = no_sub has s.subcommand_required q.0 in
    let arg = no_arg (s.subcommand_negates_reqs && has) (list_all (λ a. not a.required || is_given a.id rows) s.rules) (list_any (λ a. a.required && not (is_given a.id rows)) s.rules)
    (none_wanted rows s.rules) r.1 in
    rw (help, sub, arg) refl
  where
    no_help : (has help any : Bool) → (not help || (has || any)) ≡ true → (not has && (help && not any)) ≡ false
    no_help true help any e = refl
    no_help false false any e = refl
    no_help false true true e = refl
    no_help false true false e = never e

    no_sub : (has sub : Bool) → (not sub || has) ≡ true → (not has && sub) ≡ false
    no_sub true sub e = refl
    no_sub false false e = refl
    no_sub false true e = never e

    no_arg : (free all any : Bool) → (all ≡ true → any ≡ false) → (free || all) ≡ true → (not free && any) ≡ false
    no_arg true all any none e = refl
    no_arg false all any none e = none e

level_taken : (s : Shape) (names : Names) (h : Held) (words : List Text) (has : Bool) (below : Kinds) → below ≡ [] → level_passes s names h words has ≡ true
    → level_fault s names h words has below ≡ []
level_taken s names h words has below none e =
    let end = (walk s.rules names h words).held in
    let p = and_parts (walk_passes s names (walk_from h) words) _ e in
    let q = and_parts (settle_passes s.rules s.args_override_self end) _ p.1 in
    let r = and_parts (list_all default_passes s.rules) _ q.1 in
    past _ _ (walk_taken s names (walk_from h) words p.0) ∙ past _ _ none ∙ past _ _ (settle_taken s.rules s.args_override_self end q.0)
    ∙ past _ _ (defaults_taken (settled s.rules end).rows s.rules r.0) ∙ check_taken s (finished s.rules end) has r.1

entered_taken : (a : App) (stop : Option (Text × List Text)) → entered_passes a stop ≡ true → entered_fault a stop ≡ []
entered_taken a None e = refl
entered_taken a (Some p) e = go (find (λ s. answers_to p.0 (label_of s)) a.subs) e
  where
    go : (o : Option Shape) → option_map_or (λ s. level_passes s [] nothing_held p.1 false) o true ≡ true
        → option_map_or (λ s. level_fault s [] nothing_held p.1 false []) o [] ≡ []
    go None e = refl
    go (Some s) e = level_taken s [] nothing_held p.1 false [] refl e

built_taken : (a : App) (h : Held) (words : List Text) → built_takes a h words ≡ true → built_fault a h words ≡ []
built_taken a h words e =
    let stop = (walk a.top.rules (names_of a) h words).stopped in
    let p = and_parts (entered_passes a stop) _ e in
    level_taken a.top (names_of a) h words (is_some (entered a stop)) (entered_fault a stop) (entered_taken a stop p.0) p.1

pub takes_faultless : (a : App) (words : List Text) → takes a words ≡ true → fault_of a words ≡ []
takes_faultless a words e = built_taken (built a) nothing_held (argument_words a words) (and_parts _ _ e).1
