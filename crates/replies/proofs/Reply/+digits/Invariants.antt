use Rattle.replies.proofs.Reply.+digits.Given as goal

abbrev pub decreases-digits : goal.decreases-digits
decreases-digits l = l.width
