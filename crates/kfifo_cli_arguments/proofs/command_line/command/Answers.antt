use Rattle.std.proofs.lemmas.Result.{IfOk-weaker}
use Rattle.kfifo_cli_arguments.proofs.Rules.{adds_command, bare_program_is}
use Rattle.kfifo_cli_arguments.proofs.command_line.command.Goals as goal

pub returns : goal.returns
returns c =
    let bare = bare_program_is c.new.result c.in_ok-bin_name.field-0 c.no_binary_name.result c.version.result
    c.about.result
    c.after_help.result c.after_long_help.result c.subcommand_required.result c.arg_required_else_help.result _ _ _ _
    c.new.ensures.app c.new.ensures.local c.in_ok-bin_name.ensures.0 c.no_binary_name.ensures c.version.ensures
    c.about.ensures
    c.after_help.ensures c.after_long_help.ensures c.subcommand_required.ensures c.arg_required_else_help.ensures in
    let one = adds_command _ _ c.in_ok-subcommand.field-0 _ _ bare c.in_ok-command.ensures c.in_ok-subcommand.ensures in
    let two = adds_command _ _ c.in_ok-subcommand-2.field-0 _ _ one c.in_ok-command-2.ensures
    c.in_ok-subcommand-2.ensures in
    let three = adds_command _ _ c.in_ok-subcommand-3.field-0 _ _ two c.in_ok-command-3.ensures
    c.in_ok-subcommand-3.ensures in
    let four = adds_command _ _ c.in_ok-subcommand-4.field-0 _ _ three c.in_ok-command-4.ensures
    c.in_ok-subcommand-4.ensures in
    let five = adds_command _ _ c.in_ok-subcommand-5.field-0 _ _ four c.in_ok-command-5.ensures
    c.in_ok-subcommand-5.ensures in
    let six = adds_command _ _ c.in_ok-subcommand-6.field-0 _ _ five c.in_ok-command-6.ensures
    c.in_ok-subcommand-6.ensures in
    let seven = adds_command _ _ c.in_ok-subcommand-7.field-0 _ _ six c.in_ok-command-7.ensures
    c.in_ok-subcommand-7.ensures in
    let eight = adds_command _ _ c.in_ok-subcommand-8.field-0 _ _ seven c.in_ok-command-8.ensures
    c.in_ok-subcommand-8.ensures in
    let nine = adds_command _ _ c.in_ok-subcommand-9.field-0 _ _ eight c.in_ok-command-9.ensures
    c.in_ok-subcommand-9.ensures in
    let ten = adds_command _ _ c.in_ok-subcommand-10.field-0 _ _ nine c.in_ok-command-10.ensures
    c.in_ok-subcommand-10.ensures in
    IfOk-weaker c.subcommand-11.result _ _ (λ r h. adds_command _ _ r _ _ ten c.in_ok-command-11.ensures h)
    c.subcommand-11.ensures
