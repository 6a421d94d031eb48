use Rattle.std.proofs.Common.{◌≡◌, ◌≤◌, [], List, map, length}
use Rattle.pat_parser_spec.specs.Machine as m
use Rattle.pat_parser_spec.specs.Trees as trees
use Rattle.pat_tree.specs.Views.{message_view}
use Rattle.pat_parser_phrases.specs.tokens.Answers.{answer}
use Rattle.pat_parser_phrases.proofs.declarations.interfaces.messages.Given as goal

-- the answer from here, with the messages so far, is the one from behind the brace
abbrev pub invariant-loop-messages : goal.invariant-loop-messages
invariant-loop-messages l = record {
  read : (fs : List m.Frame) → (ds : List trees.Decl) → (x : trees.Name) → answer (m.state (m.WantName (m.MessageName (record { decls = ds; name = x; messages = [] }))) fs 1 0 0) l.fn.tokens ≡ answer (m.state (m.WantName (m.MessageName (record { decls = ds; name = x; messages = map message_view l.messages }))) fs 1 0 0) l.tokens;
  fewer : length l.tokens.0 ≤ length l.fn.tokens.0;
}

abbrev pub decreases-loop-messages : goal.decreases-loop-messages
decreases-loop-messages l = length l.tokens.0
