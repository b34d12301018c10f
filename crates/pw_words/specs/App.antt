-- The command by which `clap` reads the words: its subcommands, their flags and their arguments.
use Rattle.std.specs.Prelude.{[], Some, true, codes}
use Rattle.clap.specs.Words.{App, Rule, Text, new_app, new_rule, with_rule, with_subcommand}
use Rattle.clap.specs.declared.builder.action.ArgAction.TheVariants.{SetTrue}

-- `--NAME`
abbrev pub flag_rule : Text → Rule
flag_rule name = record (new_rule name) { long = Some name; action = Some SetTrue }

-- an argument that must be there
abbrev pub word_rule : Text → Rule
word_rule id = record (new_rule id) { required = true }

-- `BLOCK..`: 1 to 64 words
abbrev pub blocks_rule : Rule
blocks_rule = record (word_rule (codes "blocks")) {
  range = Some (record { start_inclusive = 1; end_inclusive = 64 });
}

-- `NAME BLOCK..`
abbrev pub blocks_app : Text → App
blocks_app name = with_rule (new_app name) blocks_rule

-- `show [--json] BLOCK..`
abbrev pub show_app : App
show_app = with_rule (blocks_app (codes "show")) (flag_rule (codes "json"))

-- `drive [--serial] [--step] SCRIPT BLOCK..`
abbrev pub drive_app : App
drive_app = with_rule
    (with_rule
    (with_rule (with_rule (new_app (codes "drive")) (flag_rule (codes "serial"))) (flag_rule (codes "step")))
    (word_rule (codes "script")))
    blocks_rule

-- `audit [--step] [--trace] [--cppc] SCRIPT HISTORY BLOCK..`
abbrev pub audit_app : App
audit_app = with_rule
    (with_rule
    (with_rule
    (with_rule
    (with_rule (with_rule (new_app (codes "audit")) (flag_rule (codes "step"))) (flag_rule (codes "trace")))
    (flag_rule (codes "cppc")))
    (word_rule (codes "script")))
    (word_rule (codes "history")))
    blocks_rule

-- `cppc [--serial] SCRIPT BLOCK..`
abbrev pub cppc_app : App
cppc_app = with_rule
    (with_rule (with_rule (new_app (codes "cppc")) (flag_rule (codes "serial"))) (word_rule (codes "script")))
    blocks_rule

-- `generate N`
abbrev pub generate_app : App
generate_app = with_rule (new_app (codes "generate")) (word_rule (codes "count"))

-- no subcommand yet; no help, no version, and no name of the program before the words
abbrev pub bare_app : App
bare_app = record {
  top = record (new_app (codes "pw")).top {
    no_binary_name = true;
    disable_help_flag = true;
    disable_help_subcommand = true;
    disable_version_flag = true;
    subcommand_required = true;
  };
  subs = [];
}

-- all of it
abbrev pub line_app : App
line_app = with_subcommand
    (with_subcommand
    (with_subcommand
    (with_subcommand
    (with_subcommand
    (with_subcommand
    (with_subcommand (with_subcommand bare_app show_app.top) (blocks_app (codes "rewrite")).top)
    (blocks_app (codes "check")).top)
    (blocks_app (codes "lint")).top)
    drive_app.top)
    audit_app.top)
    cppc_app.top)
    generate_app.top
