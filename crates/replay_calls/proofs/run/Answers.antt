-- `run` meets its contract.
use mir.Val.{SFits}
use mir.Syntax.{w32}
use borrow.Author.Rules.{rules}
use mir.Facts.{to_z-of_z}
use Rattle.replay_calls.proofs.RunLaws.{run-make, run-begin, run-read, run-write, run-ask, run-withdraw, run-report, run-send, run-deliver, run-work, run-restart, run-load, run-show, run-station, run_out, run-back, run_look}
use Rattle.replay_calls.proofs.run.Goals as goal

pub returns-in-66 : goal.returns-in-66
returns-in-66 c =
    let a = c.args in
    run-begin a.call a.replica c.begin.result a.bytes.now a.block.now c.in-66.is c.begin.ensures

pub returns-in-82 : goal.returns-in-82
returns-in-82 c =
    let a = c.args in
    run-read a.call a.replica c.read.result a.bytes.now a.block.now c.in-82.is c.read.ensures

pub returns-in-87 : goal.returns-in-87
returns-in-87 c =
    let a = c.args in
    run-write a.call a.replica c.write.result a.bytes.now a.block.now c.in-87.is (rw (to_z-of_z {w = w32} {z = a.call.value} (search rules)) at c.write.ensures)

pub returns-in-67 : goal.returns-in-67
returns-in-67 c =
    let a = c.args in
    run-ask a.call a.replica c.ask.result a.bytes.now a.block.now c.in-67.is c.ask.ensures

pub returns-in-88 : goal.returns-in-88
returns-in-88 c =
    let a = c.args in
    run-withdraw a.call a.replica c.withdraw.result a.bytes.now a.block.now c.in-88.is c.withdraw.ensures

pub returns-in-81 : goal.returns-in-81
returns-in-81 c =
    let a = c.args in
    run-report a.call a.replica c.report.result a.bytes.now a.block.now c.in-81.is c.report.ensures

pub returns-in-83 : goal.returns-in-83
returns-in-83 c =
    let a = c.args in
    run-send a.call a.replica c.send.result a.bytes.now a.block.now c.send.new.block c.in-83.is c.send.ensures

pub returns-in-68 : goal.returns-in-68
returns-in-68 c =
    let a = c.args in
    run-deliver a.call a.replica c.deliver.result a.bytes.now a.block.now c.in-68.is c.deliver.ensures

pub returns-in-75 : goal.returns-in-75
returns-in-75 c =
    let a = c.args in
    run-work a.call a.replica c.work.result a.bytes.now a.block.now c.work.new.block c.in-75.is c.work.ensures

pub returns-in-89 : goal.returns-in-89
returns-in-89 c =
    let a = c.args in
    run-restart a.call a.replica c.restart_alone.result a.bytes.now a.block.now c.restart_alone.new.block c.in-89.is (rw (to_z-of_z {w = w32} {z = a.call.value} (search rules)) at c.restart_alone.ensures)

pub returns-in-80 : goal.returns-in-80
returns-in-80 c =
    let a = c.args in
    run-load a.call a.replica c.load.result a.bytes.now a.block.now c.in-80.is c.load.ensures

pub returns-in-74 : goal.returns-in-74
returns-in-74 c =
    let a = c.args in
    run-show a.call a.replica c.show.result a.bytes.now a.block.now c.show.new.block c.in-74.is c.show.ensures

pub returns-in-65 : goal.returns-in-65
returns-in-65 c =
    let a = c.args in
    run-station a.call a.replica c.make_station.result a.bytes.now a.block.now c.in-65.is (rw (to_z-of_z {w = w32} {z = a.call.value} (search rules)) at c.make_station.ensures)

pub returns-in-79 : goal.returns-in-79
returns-in-79 c =
    let a = c.args in
    run_out a.call a.replica c.notice.result a.bytes.now a.block.now c.in-79.is c.notice.ensures

pub returns-in-85 : goal.returns-in-85
returns-in-85 c =
    let a = c.args in
    run-back a.call a.replica c.notice-in-85.result a.bytes.now a.block.now c.in-85.is c.notice-in-85.ensures

pub returns-in_default : goal.returns-in_default
returns-in_default c =
    let a = c.args in
    run_look a.call a.replica c.shown.result a.bytes.now a.block.now
    (search rules) (search rules) (search rules) (search rules) (search rules) (search rules) (search rules) (search rules) (search rules) (search rules) (search rules) (search rules) (search rules) (search rules) (search rules) (search rules) c.shown.ensures

pub returns-in-77 : goal.returns-in-77
returns-in-77 c =
    let a = c.args in
    let told : SFits w32 a.call.value = search rules in
    run-make a.call a.replica c.make.result a.bytes.now a.block.now c.in-77.is (rw (to_z-of_z told) at c.make.ensures)
