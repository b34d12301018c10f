-- What is built before words are read.
use Rattle.std.specs.Prelude.{◌≡◌, Result, false, IfOk}
use Rattle.clap.specs.Words.{App, Rule, app_of, rule_of}
use Rattle.clap.specs.declared.builder.arg.Arg.{Arg}
use Rattle.clap.specs.declared.builder.command.Command.{Command}
use Rattle.clap.specs.declared.builder.command.Command.TheViews.{out-Command as fields_of}

-- an argument has this rule, in its own command alone
pub record IsArg (arg : Arg) (r : Rule) : Type 0 where
  pub rule : rule_of arg ≡ r
  pub local : arg.global ≡ false

-- a command is this one, and has no argument that is one of its subcommands' too
pub record IsApp (command : Command) (a : App) : Type 0 where
  pub app : app_of command ≡ a
  pub local : (fields_of command).has_globals ≡ false

-- a command that was made is this one
abbrev pub IsMade : {E : Type 0} → Result Command E → App → Type 0
IsMade made a = IfOk made (λ c. IsApp c a)
