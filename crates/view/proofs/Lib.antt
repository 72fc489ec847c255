mod AfterCall
