-- What each use of an argument keeps of the rows, a parse that does not fail keeps: of any simple command, on any words.
use Rattle.std.proofs.Common.{◌≡◌, ◌∙◌, ◌∷◌, ◌&&◌, ℕ, zero, suc, arith, Bool, cond, true, false, not, is_some, refl, sym, ap, List, []}
use Rattle.std.proofs.Common.{length, drop, Option, Some, None}
use Rattle.std.specs.Prelude.{IfSome, encode_utf8, find, fold, slice_get, ⊤}
use Rattle.std.specs.Str.{bytes_eq, chars}
use Rattle.std.specs.Option.{option_map_or}
use Rattle.clap.specs.Lexer.{long_of, short_of}
use Rattle.clap.specs.Walk.{Held, Names, Outcome, Row, Rule, Step, Text, Waiting, Walk, after_flag, after_step, arg_by_id, arg_by_index}
use Rattle.clap.specs.Walk.{arg_by_long, arg_by_short, attached_value, bundle, bundle_met, bundle_step, done, finished, flag_met, has_long}
use Rattle.clap.specs.Walk.{has_short, idle, is_pending, long_met, long_or_other, next, nothing_held, option, option_met, option_word}
use Rattle.clap.specs.Walk.{plain, plain_word, positional, reacted, refused, rows_after, settled, settled_rows, short_met, short_or_plain}
use Rattle.clap.specs.Walk.{subcommand, subcommand_met, subcommand_or_other, takes_several, takes_values, to_positional, trailing, used}
use Rattle.clap.specs.Walk.{used_by_id, value, waits, walk, walk_from, walked, walked_from, with_default, word_met}
use Rattle.clap.specs.Simple.{Shape}
use Rattle.clap.specs.Kinds.{Kinds, or_else}
use Rattle.clap.specs.Faults.{bundle_fault, bundle_step_fault, check_fault, defaults_fault, flag_word_fault, flags_fault, level_fault}
use Rattle.clap.specs.Faults.{long_fault, option_fault, other_fault, positional_fault, react_fault, settle_fault, short_fault, step_fault}
use Rattle.clap.specs.Faults.{stray_fault, turn_fault, use_fault, walk_fault, word_fault}
use Rattle.clap.specs.declared.error.kind.ErrorKind.TheVariants as kind

pub some_kind : (k : Kinds) (e : _) → e ∷ k ≡ [] → ⊥
some_kind k e h = omega (arith, ap length h)

pub none_of_both : (a b : Kinds) → or_else a b ≡ [] → (a ≡ []) × (b ≡ [])
none_of_both [] b e = (refl, e)
none_of_both (k ∷ ks) b e = absurd (some_kind ks k e)

abbrev pub Each : (Rule → Type 0) → List Rule → Type 0
Each K [] = ⊤
Each K (a ∷ rest) = K a × Each K rest

found : (K : Rule → Type 0) (p : Rule → Bool) (c : List Rule) → Each K c → IfSome (find p c) K
found K p [] each = tt
found K p (a ∷ rest) each = go (p a) (found K p rest each.1)
  where
    go : (b : Bool) → IfSome (find p rest) K → IfSome (cond b (Some a) (find p rest)) K
    go true later = each.0
    go false later = later

module _ (G : List Row → Type 0) (again : Bool) where
  -- a use that does not fail keeps G
  abbrev pub Keeps : Rule → Type 0
  Keeps a = (values : List Text) (rows : List Row) → use_fault again a values rows ≡ [] → G rows → G (used a values rows)

  module _ (c : List Rule) (each : Each Keeps c) where
    settle_keeps : (h : Held) → settle_fault c again h ≡ [] → G h.rows → G (settled c h).rows
    settle_keeps h = go h.pending
      where
        by_id : (o : Option Rule) → IfSome o Keeps → (values : List Text) → option_map_or (λ a. use_fault again a values h.rows) o [] ≡ []
            → G h.rows → G (used_by_id o values h.rows)
        by_id None k values free g = g
        by_id (Some a) k values free g = k values h.rows free g

        go : (p : Option (Text × List Text))
            → option_map_or (λ p. option_map_or (λ a. use_fault again a p.1 h.rows) (arg_by_id c p.0) []) p [] ≡ [] → G h.rows
            → G (settled_rows c p h.rows)
        go None free g = g
        go (Some p) free g = by_id (arg_by_id c p.0) (found Keeps (λ a. bytes_eq a.id p.0) c each) p.1 free g

    react_keeps : (a : Rule) → Keeps a → (values : List Text) (h : Held) → react_fault c again a values h ≡ [] → G h.rows
        → G (reacted c a values h).rows
    react_keeps a k values h free g =
        let parts = none_of_both (settle_fault c again h) (use_fault again a values (settled c h).rows) free in
        k values (settled c h).rows parts.1 (settle_keeps h parts.0 g)

    option_keeps : (a : Rule) → Keeps a → (v : Option Text) (h : Held) → option_fault c again a v h ≡ [] → G h.rows
        → G (option_met c a v h).0.rows
    option_keeps a k (Some v) h free g = react_keeps a k (v ∷ []) h free g
    option_keeps a k None h free g = settle_keeps h free g

    long_keeps : (o : Option Rule) → IfSome o Keeps → (v : Option Text) (h : Held) → long_fault c again o v h ≡ [] → G h.rows
        → G (long_met c o v h).0.rows
    long_keeps None k v h free g = g
    long_keeps (Some a) k v h free g = go (takes_values a) free g
      where
        flag : (v : Option Text) → cond (is_some v) (kind.TooManyValues ∷ []) (react_fault c again a [] h) ≡ [] → G h.rows
            → G (flag_met c a v h).0.rows
        flag (Some v) free g = g
        flag None free g = react_keeps a k [] h free g

        go : (b : Bool) → cond b (option_fault c again a v h) (cond (is_some v) (kind.TooManyValues ∷ []) (react_fault c again a [] h)) ≡ []
            → G h.rows → G (cond b (option_met c a v h) (flag_met c a v h)).0.rows
        go true free g = option_keeps a k v h free g
        go false free g = flag v free g

    short_keeps : (o : Option Rule) → IfSome o Keeps → (rest : Text) (h : Held) (then : Held → Held × Outcome) (fault : Held → Kinds)
        → ((h : Held) → fault h ≡ [] → G h.rows → G (then h).0.rows)
        → short_fault c again o rest h fault ≡ [] → G h.rows → G (short_met c o rest h then).0.rows
    short_keeps None k rest h then fault after free g = g
    short_keeps (Some a) k rest h then fault after free g = go (takes_values a) free g
      where
        go : (b : Bool)
            → cond b (option_fault c again a (attached_value rest) h) (or_else (react_fault c again a [] h) (fault (reacted c a [] h))) ≡ []
            → G h.rows
            → G (cond b (option_met c a (attached_value rest) h) (then (reacted c a [] h))).0.rows
        go true free g = option_keeps a k (attached_value rest) h free g
        go false free g =
            let parts = none_of_both (react_fault c again a [] h) (fault (reacted c a [] h)) free in
            after (reacted c a [] h) parts.1 (react_keeps a k [] h parts.0 g)

    flags_keep : (k : ℕ) (flags : Text) (skip : ℕ) (so_far : Outcome) (h : Held) → flags_fault c again k flags skip h ≡ [] → G h.rows
        → G (bundle_met c k flags skip so_far h).0.rows
    unfolding flags_fault bundle_met
    flags_keep zero flags skip so_far h free g = g
    flags_keep (suc k) flags skip so_far h free g = go (flags_keep k) (slice_get (chars flags) 0) skip free g
      where
        go : ((flags : Text) (skip : ℕ) (so_far : Outcome) (h : Held) → flags_fault c again k flags skip h ≡ [] → G h.rows
            → G (bundle_met c k flags skip so_far h).0.rows)
            → (o : Option ℕ) (skip : ℕ) → bundle_step_fault c again o flags skip h (flags_fault c again k) ≡ [] → G h.rows
            → G (bundle_step c o flags skip so_far h (bundle_met c k)).0.rows
        go keep None skip free g = g
        go keep (Some x) zero free g =
            let rest = drop (length (encode_utf8 x)) flags in
            short_keeps (arg_by_short c x) (found Keeps (λ a. not (is_some a.index) && has_short a x) c each) rest h
            (bundle_met c k rest 0 done) (flags_fault c again k rest 0) (keep rest 0 done) free g
        go keep (Some x) (suc skip) free g = keep (drop (length (encode_utf8 x)) flags) skip so_far h free g

    plain_keeps : (waiting : Waiting) (word : Text) (h : Held) → G h.rows → G (plain_word c waiting word h).0.rows
    plain_keeps idle word h g = g
    plain_keeps (option id) word h g = go (arg_by_id c id)
      where
        go : (o : Option Rule) → G (option_word o id word h).0.rows
        go None = g
        go (Some a) = g
    plain_keeps positional word h g = g

    flag_keeps : (waiting : Waiting) (word : Text) (h : Held) (o : Outcome) → G h.rows → G (after_flag c waiting word h o).0.rows
    flag_keeps waiting word h done g = g
    flag_keeps waiting word h (waits id) g = g
    flag_keeps waiting word h plain g = plain_keeps waiting word h g
    flag_keeps waiting word h refused g = plain_keeps waiting word h g

  -- a word of a command
  module _ (s : Shape) (same : s.args_override_self ≡ again) (each : Each Keeps s.rules) (names : Names) where
    bundle_keeps : (waiting : Waiting) (word : Text) (h : Held) (flags : Option Text)
        → option_map_or (λ f. bundle_fault s.rules again f h) flags [] ≡ [] → G h.rows
        → G (short_or_plain s.rules waiting word flags h).0.rows
    bundle_keeps waiting word h None free g = plain_keeps s.rules each waiting word h g
    bundle_keeps waiting word h (Some flags) free g =
        flag_keeps s.rules each waiting word (bundle s.rules flags h).0 (bundle s.rules flags h).1
        (flags_keep s.rules each (length flags) flags h.skip plain (record h { skip = 0 }) free g)

    flag_word_keeps : (waiting : Waiting) (word : Text) (h : Held) (o : Option (Text × Option Text))
        → flag_word_fault s.rules again o word h ≡ [] → G h.rows
        → G (long_or_other s.rules waiting word o h).0.rows
    flag_word_keeps waiting word h None free g = bundle_keeps waiting word h (short_of word) free g
    flag_word_keeps waiting word h (Some p) free g =
        let a = arg_by_long s.rules p.0 in
        flag_keeps s.rules each waiting word (long_met s.rules a p.1 h).0 (long_met s.rules a p.1 h).1
        (long_keeps s.rules each a (found Keeps (λ a. not (is_some a.index) && has_long a p.0) s.rules each) p.1 h free g)

    other_keeps : (waiting : Waiting) (position : ℕ) (word : Text) (h : Held) (o : Option Text) → other_fault s o word h ≡ [] → G h.rows
        → G (subcommand_or_other s.rules o waiting position word h).0.rows
    other_keeps waiting position word h (Some name) free g = g
    other_keeps waiting position word h None free g = go (bytes_eq word (45 ∷ 45 ∷ [])) free g
      where
        go : (b : Bool) → cond b [] (flag_word_fault s.rules s.args_override_self (long_of word) word h) ≡ [] → G h.rows
            → G (cond b (h, trailing position) (long_or_other s.rules waiting word (long_of word) h)).0.rows
        go true free g = g
        go false free g =
            flag_word_keeps waiting word h (long_of word) (ap (λ x. flag_word_fault s.rules x (long_of word) word h) (sym same) ∙ free) g

    word_keeps : (is_trailing : Bool) (waiting : Waiting) (position : ℕ) (word : Text) (h : Held)
        → word_fault s names is_trailing waiting word h ≡ [] → G h.rows
        → G (word_met s.rules names is_trailing waiting position word h).0.rows
    word_keeps true waiting position word h free g = g
    word_keeps false waiting position word h free g = other_keeps waiting position word h (subcommand_met names waiting word) free g

    step_keeps : (w : Walk) (word : Text) (h : Held) (step : Step) → step_fault s w.position h step ≡ [] → G h.rows
        → G (after_step s.rules word w h step).held.rows
    step_keeps w word h (next waiting) free g = g
    step_keeps w word h (trailing position) free g = g
    step_keeps w word h (subcommand name) free g = g
    step_keeps w word h value free g = go (arg_by_index s.rules w.position) free
      where
        by : (a : Rule) (b : Bool) → cond b [] (settle_fault s.rules again h) ≡ [] → G (cond b h (settled s.rules h)).rows
        by a true free = g
        by a false free = settle_keeps s.rules each h free g

        go : (o : Option Rule) → option_map_or (λ a. positional_fault s.rules s.args_override_self a h) o (stray_fault s) ≡ []
            → G (to_positional s.rules o word w h).held.rows
        go None free = g
        go (Some a) free = by a (is_pending a h.pending && takes_several a) (ap (λ x. positional_fault s.rules x a h) (sym same) ∙ free)

    turn_keeps : (w : Walk) (word : Text) → turn_fault s names w word ≡ [] → G w.held.rows → G (walked s.rules names w word).held.rows
    unfolding walked
    turn_keeps w word free g = go w.stopped free
      where
        met : Held × Step
        met = word_met s.rules names w.is_trailing w.waiting w.position word w.held

        go : (o : Option (Text × List Text))
            → cond (is_some o) []
            (or_else (word_fault s names w.is_trailing w.waiting word w.held) (step_fault s w.position met.0 met.1)) ≡ []
            → G (walked_from s.rules names o w word).held.rows
        go (Some p) free = g
        go None free =
            let parts = none_of_both (word_fault s names w.is_trailing w.waiting word w.held) (step_fault s w.position met.0 met.1) free in
            step_keeps w word met.0 met.1 parts.1 (word_keeps w.is_trailing w.waiting w.position word w.held parts.0 g)

    walk_keeps : (w : Walk) (words : List Text) → walk_fault s names w words ≡ [] → G w.held.rows
        → G (fold (walked s.rules names) w words).held.rows
    unfolding walk_fault
    walk_keeps w [] free g = g
    walk_keeps w (word ∷ rest) free g =
        let parts = none_of_both (turn_fault s names w word) (walk_fault s names (walked s.rules names w word) rest) free in
        walk_keeps (walked s.rules names w word) rest parts.1 (turn_keeps w word parts.0 g)

module _ (G : List Row → Type 0) where
  -- a default that is filled in keeps G
  abbrev pub KeepsFilled : Rule → Type 0
  KeepsFilled a = (rows : List Row) → G rows → G (with_default rows a)

  filled_keeps : (c : List Rule) → Each KeepsFilled c → (rows : List Row) → G rows → G (fold with_default rows c)
  filled_keeps [] each rows g = g
  filled_keeps (a ∷ rest) each rows g = filled_keeps rest each.1 (with_default rows a) (each.0 rows g)

-- the end of a level, from what is held after its words: first its defaults and checks
abbrev pub checks_end : Shape → Held → Kinds
checks_end s end = or_else (defaults_fault (settled s.rules end).rows s.rules) (check_fault s (finished s.rules end) false)

abbrev pub level_end : Shape → Held → Kinds
level_end s end = or_else (settle_fault s.rules s.args_override_self end) (checks_end s end)

abbrev pub end_of : Shape → List Text → Held
end_of s words = (walk s.rules [] nothing_held words).held

-- the parts of a level that does not fail
pub level_parts : (s : Shape) (words : List Text) → level_fault s [] nothing_held words false [] ≡ []
    → (walk_fault s [] (walk_from nothing_held) words ≡ []) × (settle_fault s.rules s.args_override_self (end_of s words) ≡ [])
    × (check_fault s (rows_after s.rules [] words) false ≡ [])
level_parts s words free =
    let end = end_of s words in
    let walks = none_of_both (walk_fault s [] (walk_from nothing_held) words) (level_end s end) free in
    let settles = none_of_both (settle_fault s.rules s.args_override_self end) (checks_end s end) walks.1 in
    let checks = none_of_both (defaults_fault (settled s.rules end).rows s.rules) (check_fault s (finished s.rules end) false) settles.1 in
    (walks.0, settles.0, checks.1)

-- a level that does not fail keeps G from no rows to the rows of its matches
pub level_keeps : (G : List Row → Type 0) (s : Shape) (words : List Text) → Each (Keeps G s.args_override_self) s.rules
    → Each (KeepsFilled G) s.rules → G []
    → level_fault s [] nothing_held words false [] ≡ [] → G (rows_after s.rules [] words)
level_keeps G s words each filled g free =
    let parts = level_parts s words free in
    filled_keeps G s.rules filled (settled s.rules (end_of s words)).rows
    (settle_keeps G s.args_override_self s.rules each (end_of s words) parts.1
    (walk_keeps G s.args_override_self s refl each [] (walk_from nothing_held) words parts.0 g))
