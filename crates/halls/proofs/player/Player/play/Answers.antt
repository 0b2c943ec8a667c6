-- A line of a script.
use Rattle.std.proofs.Common.{Global, sym, ◌∙◌}
use Rattle.halls.proofs.Scripting.{scripts_alike, follows_none, faults_before, asked_is}
use Rattle.halls.proofs.player.Player.play.Goals as goal

pub returns-in_err-asked-clause-follows : goal.returns-in_err-asked-clause-follows
returns-in_err-asked-clause-follows c = follows_none c.args.self.now.hall

pub returns-in_err-asked-clause-alike : goal.returns-in_err-asked-clause-alike
returns-in_err-asked-clause-alike c = scripts_alike

pub returns-in_err-open-in-Hall-None-clause-alike : goal.returns-in_err-open-in-Hall-None-clause-alike
returns-in_err-open-in-Hall-None-clause-alike c = scripts_alike

pub returns-in_default-Some-clause-alike : goal.returns-in_default-Some-clause-alike
returns-in_default-Some-clause-alike c = scripts_alike

pub returns-in_ok-open-in-Hall-None-clause-alike : goal.returns-in_ok-open-in-Hall-None-clause-alike
returns-in_ok-open-in-Hall-None-clause-alike c = scripts_alike

pub returns-in_default-clause-alike : goal.returns-in_default-clause-alike
returns-in_default-clause-alike c = scripts_alike

pub returns-in_default-clause-answer : goal.returns-in_default-clause-answer
returns-in_default-clause-answer c = faults_before Global c.args.self.now.hall c.in_ok-asked.asked _ c.in_default.is-1 (sym c.parse.ensures.value ∙ asked_is c.parse.result c.in_ok-asked.asked c.in_ok-asked.ensures.value) c.in_default.not-Hall-0
