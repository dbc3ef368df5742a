use Rattle.std.proofs.Common.{rules, ◌≡◌, ◌∙◌, ap₂, false, codes, map, string_bytes, [], ◌∷◌}
use Rattle.clap.specs.Words.{Text, app_of, rule_of, with_rule}
use Rattle.clap.specs.ValueTests.{accepts}
use Rattle.run_words.specs.Words.{is_mode}
use Rattle.run_words.proofs.WordLemmasCommand.{bare_shape, command_of, mode_rule}
use Rattle.run_words.proofs.WordLemmas.{accepts_modes, parse_mode, parse_options, parse_other, parse_taken}
use Rattle.run_words.proofs.words.matches_of.Goals as goal

pub returns : goal.returns
returns c =
    let given = c.value_parser-mode.ensures.given in
    let listed : map (λ s. s.now) c.as_slice.result.now ≡ codes "serial" ∷ codes "race" ∷ codes "gen" ∷ codes "compare" ∷ codes "check" ∷ codes "copy" ∷ [] = search rules in
    let accepted : (text : Text) → accepts false given.0 text ≡ is_mode text = accepts_modes given.0 c.as_slice.result given.2 listed in
    let mode_is : rule_of c.value_parser-mode.result ≡ mode_rule given.0 = search rules in
    let bare_is : app_of c.disable_version_flag.result ≡ record { top = bare_shape; subs = [] } = search rules in
    let is : app_of c.in_ok-command.command ≡ command_of given.0 =
    c.in_ok-command.ensures.shape c.flag-3.ensures.local
    ∙ ap₂ with_rule (c.in_ok-arg-3.ensures.shape c.flag-2.ensures.local
    ∙ ap₂ with_rule (c.in_ok-arg-2.ensures.shape c.flag.ensures.local
    ∙ ap₂ with_rule (c.in_ok-arg.ensures.shape (search rules) ∙ ap₂ with_rule bare_is mode_is) c.flag.ensures.rule) c.flag-2.ensures.rule) c.flag-3.ensures.rule in
    let texts = map string_bytes c.args.words.now in
    let parse = c.try_get_matches_from in
    record {
      taken = parse_taken given.0 accepted (app_of c.in_ok-command.command) is texts parse.result parse.ensures.kinds;
      options = parse_options given.0 accepted (app_of c.in_ok-command.command) is texts parse.result parse.ensures.kinds parse.ensures.matches;
      mode = parse_mode given.0 accepted (app_of c.in_ok-command.command) is texts parse.result parse.ensures.kinds parse.ensures.matches;
      other = parse_other given.0 accepted (app_of c.in_ok-command.command) is texts parse.result parse.ensures.kinds;
    }
