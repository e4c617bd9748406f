-- Scripts that are none, each with its first bad line and the reason, in a table for each reason, with the scripts
-- beside them that are good. The reasons of limits are in `Limits`.
use Rattle.std.proofs.Common.{List, [], ◌∷◌, ◌++◌, refl}
use Rattle.std.specs.Prelude.{codes}
use Rattle.script_model.specs.Reasons.{not_ascii, unknown_word, word_count, bad_number, out_of_range, out_of_order, undeclared}
use Rattle.script_model.specs.Reasons.{posted_twice, declaration_late, bad_block, job_use, shutdown_twice, config_twice}
use Rattle.script_model.proofs.Worked.Tables.{opened, Row, bad, good, AreRight}

-- reason 1: not_ascii, a byte above 127
abbrev not_ascii_scripts : List Row
not_ascii_scripts =
    bad (128 ∷ 10 ∷ []) 1 not_ascii  -- alone
    ∷ bad (codes "flush\nflush " ++ 200 ∷ []) 2 not_ascii  -- before word count
    ∷ good (codes "# " ++ 255 ∷ codes "\nflush")  -- in comment
    ∷ good (35 ∷ 255 ∷ [])  -- first word of comment
    ∷ []

not_ascii_scripts_right : AreRight not_ascii_scripts
unfolding opened
not_ascii_scripts_right = refl

-- reason 2: unknown_word, a word that its place does not take
abbrev unknown_word_scripts : List Row
unknown_word_scripts =
    bad (codes "hello") 1 unknown_word  -- command
    ∷ bad (codes "flush\nFlush\n") 2 unknown_word  -- command in capitals
    ∷ bad (codes "task 0 add 1 ; hop 2") 1 unknown_word  -- step
    ∷ bad (codes "task x add y ; hop") 1 unknown_word  -- step before bad number
    ∷ bad (codes "runner 0 serial user_visible skip") 1 unknown_word  -- kind
    ∷ bad (codes "runner 0 single user_visible skip") 1 unknown_word  -- single without colon
    ∷ bad (codes "runner 0 parallel user_vis") 1 unknown_word  -- priority on short line
    ∷ bad (codes "runner 0 parallel user_visible skip block") 1 unknown_word  -- sixth word
    ∷ bad (codes "runner 0 parallel user_visible skip block mayblock") 1 unknown_word  -- sixth word before seventh
    ∷ bad (codes "job 0 user_visible stop") 1 unknown_word  -- behaviour of job
    ∷ bad (codes "policy some") 1 unknown_word  -- policy
    ∷ bad (codes "reprio 0 loud") 1 unknown_word  -- priority of runner
    ∷ bad (codes "fence 0 later") 1 unknown_word  -- fence
    ∷ bad (codes "vote 0 0 maybe") 1 unknown_word  -- vote
    ∷ bad (codes "task 0 block must ; unblock") 1 unknown_word  -- scope
    ∷ []

unknown_word_scripts_right : AreRight unknown_word_scripts
unfolding opened
unknown_word_scripts_right = refl

-- reason 3: word_count, too few or too many words
abbrev word_count_scripts : List Row
word_count_scripts =
    bad (codes "workers") 1 word_count  -- no number
    ∷ bad (codes "workers 1 2") 1 word_count  -- one word more
    ∷ bad (codes "workers one 2") 1 word_count  -- before bad number
    ∷ bad (codes "flush # now") 1 word_count  -- words behind flush
    ∷ bad (codes "runner 0 parallel user_visible") 1 word_count  -- runner without behaviour
    ∷ bad (codes "runner 0 parallel user_visible skip mayblock mayblock") 1 word_count  -- seventh word
    ∷ bad (codes "task") 1 word_count  -- task without number
    ∷ bad (codes "job 0 user_visible skip 1") 1 word_count  -- job without cap
    ∷ bad (codes "post 0 0") 1 word_count  -- post without delay
    ∷ bad (codes "vote 0 0") 1 word_count  -- vote without choice
    ∷ bad (codes "reprio 0") 1 word_count  -- change without priority
    ∷ bad (codes "reprio 0 user_visible 1") 1 word_count  -- word behind priority
    ∷ bad (codes "task 0 add") 1 word_count  -- step without number
    ∷ bad (codes "task 0 add 1 2") 1 word_count  -- step with two numbers
    ∷ bad (codes "task 0 block") 1 word_count  -- step without scope
    ∷ bad (codes "task 0 block may ; unblock 1") 1 word_count  -- step with word behind
    ∷ bad (codes "task 0 add 1 ; ; mul 2") 1 word_count  -- empty step
    ∷ bad (codes "task 0 add 1 ;") 1 word_count  -- empty step at end
    ∷ bad (codes "task x ;") 1 word_count  -- lone separator
    ∷ bad (codes "task 0 add 1; mul 2") 1 word_count  -- separator in word
    ∷ []

word_count_scripts_right : AreRight word_count_scripts
unfolding opened
word_count_scripts_right = refl

-- reason 4: bad_number, a word that is no number
abbrev bad_number_scripts : List Row
bad_number_scripts =
    bad (codes "workers one") 1 bad_number  -- letters
    ∷ bad (codes "tick +1") 1 bad_number  -- sign
    ∷ bad (codes "reprio x user_visible") 1 bad_number  -- letter for runner
    ∷ bad (codes "task 0 add 1;") 1 bad_number  -- separator at end of word
    ∷ bad (codes "runner 0 single: user_visible skip") 1 bad_number  -- empty seat
    ∷ bad (codes "runner 0 single:x user_visible skip") 1 bad_number  -- letters for seat
    ∷ bad (codes "tick 000000000000000000001") 1 bad_number  -- twenty one digits
    ∷ good (codes "tick 00000000000000000001")  -- twenty digits
    ∷ bad (codes "groups 99 x 0") 1 bad_number  -- before range
    ∷ []

bad_number_scripts_right : AreRight bad_number_scripts
unfolding opened
bad_number_scripts_right = refl

-- reason 5: out_of_range, a number outside its range
abbrev out_of_range_scripts : List Row
out_of_range_scripts =
    bad (codes "workers 0") 1 out_of_range  -- no workers
    ∷ bad (codes "workers 65") 1 out_of_range  -- workers above 64
    ∷ bad (codes "workers 99999999999999999999") 1 out_of_range  -- twenty nines
    ∷ bad (codes "groups 0 1 0") 1 out_of_range  -- no foreground
    ∷ bad (codes "groups 4 5 0") 1 out_of_range  -- best effort above foreground
    ∷ good (codes "groups 4 4 64")  -- best effort at foreground
    ∷ bad (codes "threshold 1000000000001") 1 out_of_range  -- threshold
    ∷ good (codes "threshold 1000000000000")  -- greatest threshold
    ∷ bad (codes "runner 0 single:65 user_visible skip") 1 out_of_range  -- seat above 64
    ∷ bad (codes "runner 0 single:0 user_visible skip") 1 out_of_range  -- seat 0
    ∷ bad (codes "post 4294967296 0 0") 1 out_of_range  -- id above 32 bits
    ∷ bad (codes "reprio 4294967296 user_visible") 1 out_of_range  -- runner above 32 bits
    ∷ bad (codes "post 0 0 1000000000001") 1 out_of_range  -- delay before undeclared
    ∷ bad (codes "task 0 add 18446744073709551616") 1 out_of_range  -- step above 64 bits
    ∷ good (codes "task 0 add 18446744073709551615")  -- greatest step
    ∷ bad (codes "queue 0 8 0") 1 out_of_range  -- class of queue
    ∷ bad (codes "queue 0 0 17") 1 out_of_range  -- voters of queue
    ∷ bad (codes "rank 0 8") 1 out_of_range  -- class of rank
    ∷ bad (codes "vote 0 256 on") 1 out_of_range  -- voter above 255
    ∷ bad (codes "tick 0") 1 out_of_range  -- no ticks
    ∷ bad (codes "tick 65537") 1 out_of_range  -- ticks
    ∷ bad (codes "pump 16385") 1 out_of_range  -- pump
    ∷ bad (codes "job 0 user_visible skip 65537 1") 1 out_of_range  -- items
    ∷ bad (codes "job 0 user_visible skip 1 65") 1 out_of_range  -- cap
    ∷ []

out_of_range_scripts_right : AreRight out_of_range_scripts
unfolding opened
out_of_range_scripts_right = refl

-- reason 6: out_of_order, an id that is not the next one
abbrev out_of_order_scripts : List Row
out_of_order_scripts =
    bad (codes "runner 1 parallel user_visible skip") 1 out_of_order  -- runner 1 first
    ∷ bad (codes "task 0\ntask 0\n") 2 out_of_order  -- task 0 twice
    ∷ bad (codes "queue 1 0 0") 1 out_of_order  -- queue 1 first
    ∷ bad (codes "job 0 user_visible skip 1 1\njob 2 user_visible skip 1 1\n") 2 out_of_order  -- job 2 second
    ∷ bad (codes "task 1 post 0 0 0") 1 out_of_order  -- before undeclared
    ∷ []

out_of_order_scripts_right : AreRight out_of_order_scripts
unfolding opened
out_of_order_scripts_right = refl

-- reason 7: undeclared, something that was not declared
abbrev undeclared_scripts : List Row
undeclared_scripts =
    bad (codes "post 0 0 0") 1 undeclared  -- task and runner
    ∷ bad (codes "task 0\npost 0 0 0") 2 undeclared  -- runner
    ∷ bad (codes "runner 0 parallel user_visible skip\nreprio 0 user_blocking\nreprio 1 user_visible") 3 undeclared  -- runner of change
    ∷ bad (codes "runner 0 parallel user_visible skip\ntask 0\nmain 0 0 0") 3 undeclared  -- queue of main
    ∷ bad (codes "runner 0 parallel user_visible skip\ntask 0 post 0 0 0") 2 undeclared  -- own task
    ∷ bad (codes "runner 0 parallel user_visible skip\ntask 0 post 1 0 0\ntask 1\n") 2 undeclared  -- later task
    ∷ bad (codes "task 0\ntask 1 main 0 0 0") 2 undeclared  -- queue of step
    ∷ bad (codes "job 0 user_visible skip 1 1 post 0 0 0") 1 undeclared  -- task of job
    ∷ bad (codes "runner 0 single:3 user_visible skip") 1 undeclared  -- seat above default
    ∷ good (codes "runner 0 single:2 user_visible skip")  -- seat at default
    ∷ bad (codes "workers 63\nrunner 0 single:64 user_visible skip") 2 undeclared  -- seat above workers
    ∷ good (codes "workers 64\nrunner 0 single:64 user_visible skip")  -- seat at workers
    ∷ bad (codes "queue 0 0 1\nvote 0 0 off\nvote 0 1 on\n") 3 undeclared  -- voter
    ∷ bad (codes "vote 0 0 on") 1 undeclared  -- queue of vote
    ∷ bad (codes "queue 0 0 0\nfence 0 now\nfence 1 now\n") 3 undeclared  -- queue of fence
    ∷ bad (codes "close 0") 1 undeclared  -- queue of close
    ∷ bad (codes "join 0") 1 undeclared  -- job
    ∷ []

undeclared_scripts_right : AreRight undeclared_scripts
unfolding opened
undeclared_scripts_right = refl

-- reason 8: posted_twice, a task that is posted a second time
abbrev posted_twice_scripts : List Row
posted_twice_scripts =
    bad (codes "runner 0 parallel user_visible skip\ntask 0 add 1\npost 0 0 0\npost 0 0 0\n") 4 posted_twice  -- by two actions
    ∷ bad (codes "runner 0 parallel user_visible skip\ntask 0\ntask 1 post 0 0 0\npost 1 0 0\npost 0 0 0\n") 5 posted_twice  -- by a step and an action
    ∷ bad (codes "runner 0 parallel user_visible skip\ntask 0\ntask 1 post 0 0 0\ntask 2 post 0 0 0\n") 4 posted_twice  -- by two steps
    ∷ bad (codes "runner 0 parallel user_visible skip\nqueue 0 0 0\ntask 0\ntask 1 post 0 0 0 ; main 0 0 0\n") 4 posted_twice  -- twice on a line
    ∷ bad (codes "runner 0 parallel user_visible skip\nqueue 0 0 0\ntask 0\nmain 0 0 0\npost 0 0 0\n") 5 posted_twice  -- by post and main
    -- by a job before job use
    ∷ bad (codes "runner 0 parallel user_visible skip\ntask 0\ntask 1 post 0 0 0\njob 0 user_visible skip 1 1 post 0 0 0\n") 4 posted_twice
    ∷ bad (codes "runner 0 parallel user_visible skip\ntask 0\npost 0 0 0\ntask 1 post 0 0 0\n") 4 posted_twice  -- before declaration late
    ∷ []

posted_twice_scripts_right : AreRight posted_twice_scripts
unfolding opened
posted_twice_scripts_right = refl

-- reason 9: declaration_late, a line too late
abbrev declaration_late_scripts : List Row
declaration_late_scripts =
    bad (codes "runner 0 parallel user_visible skip\nworkers 1") 2 declaration_late  -- workers behind runner
    ∷ bad (codes "flush\ngroups 4 2 0") 2 declaration_late  -- groups behind action
    ∷ bad (codes "task 0\nthreshold 1") 2 declaration_late  -- threshold behind task
    ∷ bad (codes "flush\nrunner 0 parallel user_visible skip\n") 2 declaration_late  -- runner behind action
    ∷ bad (codes "flush\nqueue 0 0 0") 2 declaration_late  -- queue behind action
    ∷ bad (codes "flush\ntask 0") 2 declaration_late  -- task behind action
    ∷ bad (codes "flush\njob 0 user_visible skip 1 1") 2 declaration_late  -- job behind action
    ∷ bad (codes "workers 1\nflush\nworkers 1") 3 declaration_late  -- before config twice
    ∷ bad (codes "flush\ntask 0 block may") 2 declaration_late  -- before bad block
    ∷ good (codes "task 0\nrunner 0 parallel user_visible skip\n")  -- runner behind task
    ∷ []

declaration_late_scripts_right : AreRight declaration_late_scripts
unfolding opened
declaration_late_scripts_right = refl

-- reason 10: bad_block, scopes that do not fit, and tasks that must not block where they are posted
abbrev bad_block_scripts : List Row
bad_block_scripts =
    bad (codes "task 0 block may") 1 bad_block  -- open at end
    ∷ bad (codes "task 0 unblock") 1 bad_block  -- closed before opened
    ∷ bad (codes "task 0 block may ; block will ; unblock ; unblock") 1 bad_block  -- opened twice
    ∷ bad (codes "task 0 block may ; unblock ; unblock") 1 bad_block  -- closed twice
    ∷ good (codes "task 0 block may ; unblock ; add 1 ; block will ; unblock")  -- one after the other
    ∷ bad (codes "queue 0 0 0\ntask 0 block may ; unblock\nmain 0 0 0") 3 bad_block  -- posted to main
    ∷ bad (codes "queue 0 0 0\ntask 0 block may ; unblock\ntask 1 main 0 0 0") 3 bad_block  -- posted to main by a step
    ∷ bad (codes "runner 0 parallel user_visible skip\ntask 0 block may ; unblock\npost 0 0 0") 3 bad_block  -- posted to runner without mayblock
    -- posted by a step to runner without mayblock
    ∷ bad (codes "runner 0 parallel user_visible skip\ntask 0 block may ; unblock\ntask 1 post 0 0 0") 3 bad_block
    ∷ good (codes "runner 0 parallel user_visible skip mayblock\ntask 0 block may ; unblock\npost 0 0 0")  -- posted to runner with mayblock
    ∷ good (codes "runner 0 parallel user_visible skip mayblock\ntask 0 block may ; unblock\ntask 1 post 0 0 0")  -- posted by a step to runner with mayblock
    -- posted by a job before job use
    ∷ bad (codes "runner 0 parallel user_visible skip\ntask 0 block may ; unblock\njob 0 user_visible skip 1 1 post 0 0 0") 3 bad_block
    ∷ []

bad_block_scripts_right : AreRight bad_block_scripts
unfolding opened
bad_block_scripts_right = refl

-- reason 11: job_use, a job that is used as it must not be
abbrev job_use_scripts : List Row
job_use_scripts =
    bad (codes "job 0 user_visible skip 1 1 block may") 1 job_use  -- job with scope
    ∷ bad (codes "job 0 user_visible skip 1 1 unblock") 1 job_use  -- job with unblock
    ∷ bad (codes "runner 0 parallel user_visible skip\ntask 0\njob 0 user_visible skip 1 1 add 1 ; post 0 0 0") 3 job_use  -- job that posts
    ∷ bad (codes "job 0 user_visible skip 1 1\nstartjob 0\nstartjob 0") 3 job_use  -- started twice
    ∷ bad (codes "job 0 user_visible skip 1 1\njoin 0") 2 job_use  -- joined before started
    ∷ bad (codes "job 0 user_visible skip 1 1\ncancel 0\nstartjob 0") 2 job_use  -- cancelled before started
    ∷ good (codes "job 0 user_visible skip 1 1\nstartjob 0\njoin 0\ncancel 0\njoin 0\n")  -- joined and cancelled
    ∷ []

job_use_scripts_right : AreRight job_use_scripts
unfolding opened
job_use_scripts_right = refl

-- reason 12: shutdown_twice
abbrev shutdown_twice_scripts : List Row
shutdown_twice_scripts =
    bad (codes "shutdown\nshutdown") 2 shutdown_twice  -- shutdown
    ∷ bad (codes "shutdown\nflush\nshutdown\nhello") 3 shutdown_twice  -- shutdown later
    ∷ []

shutdown_twice_scripts_right : AreRight shutdown_twice_scripts
unfolding opened
shutdown_twice_scripts_right = refl

-- reason 13: config_twice
abbrev config_twice_scripts : List Row
config_twice_scripts =
    bad (codes "workers 2\nworkers 2") 2 config_twice  -- workers
    ∷ bad (codes "groups 4 2 0\nworkers 1\ngroups 4 2 0") 3 config_twice  -- groups
    ∷ bad (codes "threshold 0\n\nthreshold 0") 3 config_twice  -- threshold
    ∷ []

config_twice_scripts_right : AreRight config_twice_scripts
unfolding opened
config_twice_scripts_right = refl

-- where more than one reason could seem to hold
abbrev edge_scripts : List Row
edge_scripts =
    bad (codes "tick 1\r \n") 1 bad_number  -- cr before blank
    ∷ bad (codes "flush\r\r\n") 1 unknown_word  -- one return is dropped and the second is part of a word
    ∷ bad (160 ∷ codes "# x") 1 not_ascii  -- high byte before hash
    ∷ bad (codes "flush" ++ 11 ∷ []) 1 unknown_word  -- vertical tab is no blank
    ∷ bad (codes "runner 0 single:000000000000000000001 user_visible skip") 1 bad_number  -- seat of twenty one digits
    ∷ bad (codes "post 4294967295 4294967295 0") 1 undeclared  -- greatest id is undeclared
    ∷ bad (codes "groups 4 4 0\ngroups 4 5 0") 2 out_of_range  -- range of groups before twice
    ∷ bad (codes "runner 0 parallel user_visible skip\ntask 0\ntask 1 post 0 0 0 ; post 0 1 0") 3 undeclared  -- undeclared before posted twice
    ∷ bad (codes "queue 0 0 0\ntask 0\ntask 1 block may ; main 0 0 0 ; main 0 0 0") 3 posted_twice  -- posted twice before bad block
    ∷ bad (codes "job 0 user_visible skip 4 add 3 ; hop") 1 unknown_word  -- step behind misplaced cap
    ∷ bad (codes "task ; add 1") 1 bad_number  -- separator for id
    ∷ bad (codes "queue 0 0 2\nqueue 1 0 1\nvote 1 1 on") 3 undeclared  -- voter of another queue
    ∷ bad (codes "workers 1\nworkers 2") 2 config_twice  -- twice with another value
    ∷ []

edge_scripts_right : AreRight edge_scripts
unfolding opened
edge_scripts_right = refl
