pub mod WriterAnswers
mod PutRecordsLoop
