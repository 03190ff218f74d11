-- `put_name` meets its contract: by the number. Assumes nothing.
use native.Mathlib.Omega.{arith}
use Rattle.ask_text.specs.Texts.{name_of}
use Rattle.ask_text.proofs.Names.{last_name}
use Rattle.ask_text.proofs.put_name.Goals as goal

pub returns-in-1 : goal.returns-in-1
unfolding name_of
returns-in-1 c = rw c.in-1.is c.put_word.ensures

pub returns-in-2 : goal.returns-in-2
unfolding name_of
returns-in-2 c = rw c.in-2.is c.put_word-in-2.ensures

pub returns-in-3 : goal.returns-in-3
unfolding name_of
returns-in-3 c = rw c.in-3.is c.put_word-in-3.ensures

pub returns-in-4 : goal.returns-in-4
unfolding name_of
returns-in-4 c = rw c.in-4.is c.put_word-in-4.ensures

pub returns-in-5 : goal.returns-in-5
unfolding name_of
returns-in-5 c = rw c.in-5.is c.put_word-in-5.ensures

pub returns-in-6 : goal.returns-in-6
unfolding name_of
returns-in-6 c = rw c.in-6.is c.put_word-in-6.ensures

pub returns-in-7 : goal.returns-in-7
unfolding name_of
returns-in-7 c = rw c.in-7.is c.put_word-in-7.ensures

pub returns-in-8 : goal.returns-in-8
unfolding name_of
returns-in-8 c = rw c.in-8.is c.put_word-in-8.ensures

pub returns-in-9 : goal.returns-in-9
unfolding name_of
returns-in-9 c = rw c.in-9.is c.put_word-in-9.ensures

pub returns-in-10 : goal.returns-in-10
unfolding name_of
returns-in-10 c = rw c.in-10.is c.put_word-in-10.ensures

pub returns-in-11 : goal.returns-in-11
unfolding name_of
returns-in-11 c = rw c.in-11.is c.put_word-in-11.ensures

pub returns-in-12 : goal.returns-in-12
unfolding name_of
returns-in-12 c = rw c.in-12.is c.put_word-in-12.ensures

pub returns-in-13 : goal.returns-in-13
unfolding name_of
returns-in-13 c = rw c.in-13.is c.put_word-in-13.ensures

pub returns-in-14 : goal.returns-in-14
unfolding name_of
returns-in-14 c = rw c.in-14.is c.put_word-in-14.ensures

pub returns-in_default : goal.returns-in_default
returns-in_default c = rw (last_name c.args.number (omega arith)) c.put_word-in_default.ensures
