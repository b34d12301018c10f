use Rattle.std.proofs.Common.{◌≡◌, ◌∙◌, inl, inr, refl, ap, sym, subst, true, List, Some, option_map}
use Rattle.std.proofs.lemmas.Result.{MatchResult-weaker}
use Rattle.clap.specs.Words.{kind_of, found_of, rows_of, subcommand_of}
use Rattle.clap.specs.Walk.{Row, Text}
use Rattle.clap.specs.Kinds.{IsAmong}
use Rattle.clap.specs.Simple.{is_simple}
use Rattle.clap.specs.Faults.{fault_of, is_simple_and_free}
use Rattle.clap.specs.Takes.{takes}
use Rattle.pw_words.specs.App.{line_app}
use Rattle.pw_words.specs.Command.{slice_texts}
use Rattle.pw_words.specs.inner.Reading.{CanSay}
use Rattle.pw_words.proofs.Getters.{inside, subcommand_is}
use Rattle.pw_words.proofs.Subcommands.{met}
use Rattle.pw_words.proofs.Present.{can_say, miscounted}
use Rattle.pw_words.proofs.matches.stated.Goals as goal

line_is_simple : is_simple line_app ≡ true
line_is_simple = refl

line_is_free : is_simple_and_free line_app ≡ true
line_is_free = refl

pub returns-in-Err : goal.returns-in-Err
returns-in-Err c =
    let words = slice_texts c.args.words.now in
    let app = c.in_ok-line.ensures in
    λ refused. inl (record {
      untaken = λ none. elim (c.in-Err.ensures.kinds (ap is_simple_and_free app ∙ line_is_free)) [
        | inl memory ↦ absurd (c.fault_from.ensures refused memory)
        | inr among ↦ subst (λ k. IsAmong (kind_of c.in-Err.error) k) (ap (λ a. fault_of a words) app ∙ none) among
      ];
      unstated = λ taken. c.fault_from.ensures refused (c.in-Err.ensures.passes (ap (λ a. takes a words) app ∙ taken));
    })

pub command_in-requires : goal.command_in-requires
command_in-requires c =
    let words = slice_texts c.args.words.now in
    let app = c.in_ok-line.ensures in
    let free = sym (ap (λ a. fault_of a words) app) ∙ c.in-Ok.ensures.kinds (ap is_simple_and_free app ∙ line_is_free) in
    let m = met words free in
    let rows = rows_of (found_of c.in-Some.inner.now) in
    let here = sym (subcommand_is c.in-Ok.matches c.in-Some.name.now rows
    (sym (ap (option_map (λ p. p.0.now)) c.in-Some.is) ∙ c.subcommand.ensures.name)
    (sym (ap (option_map (λ p. rows_of (found_of p.1.now))) c.in-Some.is) ∙ c.subcommand.ensures.rows))
    ∙ (c.in-Ok.ensures.matches (ap is_simple app ∙ line_is_simple)).1 ∙ ap (λ a. subcommand_of a words) app ∙ m.command in
    subst (λ (p : Text × List Row). CanSay p.0 p.1) (sym (inside _ _ here)) (can_say m)

pub returns : goal.returns
returns c =
    let words = slice_texts c.args.words.now in
    let app = c.in_ok-line.ensures in
    let rows = rows_of (found_of c.in-Some.inner.now) in
    let here = sym (ap (λ a. subcommand_of a words) app) ∙ sym (c.in-Ok.ensures.matches (ap is_simple app ∙ line_is_simple)).1
    ∙ subcommand_is c.in-Ok.matches c.in-Some.name.now rows
    (sym (ap (option_map (λ p. p.0.now)) c.in-Some.is) ∙ c.subcommand.ensures.name)
    (sym (ap (option_map (λ p. rows_of (found_of p.1.now))) c.in-Some.is) ∙ c.subcommand.ensures.rows) in
    let free = sym (ap (λ a. fault_of a words) app) ∙ c.in-Ok.ensures.kinds (ap is_simple_and_free app ∙ line_is_free) in
    MatchResult-weaker c.command_in.result c.command_in.ensures
    (λ x said. record {
      rows = rows;
      taken = free;
      command = here ∙ ap (λ n. Some (n, rows)) (sym said.0);
      said = said.1;
    })
    (λ e none refused. inr (miscounted c.in-Some.name.now rows free here (none refused)))
